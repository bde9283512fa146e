use Rattle.std.proofs.Common.{◌≡◌, ◌^◌, ◌++◌, [], length, ap, arith}
use Rattle.std.specs.Prelude.{codes}
use Rattle.std.proofs.lemmas.Bool.Decides.{nat_tests}
use Rattle.certificate_text.specs.Numeral.{IsCounted, CountsNone}
use Rattle.certificate_text.specs.Text.{counted}
use Rattle.certificate_text.proofs.Heads.{dual_behind, dual_read}
use Rattle.certificate_text.proofs.Lines.{dual_prices, dual_second}
use Rattle.certificate_text.proofs.line.dual.Goals as goal

pub returns-in_default : goal.returns-in_default
returns-in_default c = λ part sound same.
    let found = dual_prices c.args.bytes.now part sound same in
    let none : CountsNone (2 ^ 56) 64 c.args.bytes.now = rw c.in_default.is at c.in_ok-read.ensures.none in
    none found.0 (codes " " ++ counted found.1) found.3

pub returns-in_default-after : goal.returns-in_default-after
returns-in_default-after c = λ part sound same.
    let counts : IsCounted (2 ^ 56) 64 c.args.bytes.now c.in-Some.lambda c.in-Some.behind.now =
    rw c.in-Some.is at c.in_ok-read.ensures.some in
    let behind = dual_behind c.args.bytes.now c.in-Some.lambda c.in-Some.behind.now part counts sound same in
    c.in_default-after.ensures.none (counted behind.0) behind.1

pub returns-in_default-read : goal.returns-in_default-read
returns-in_default-read c = λ part sound same.
    let counts : IsCounted (2 ^ 56) 64 c.args.bytes.now c.in-Some.lambda c.in-Some.behind.now =
    rw c.in-Some.is at c.in_ok-read.ensures.some in
    let found = dual_second c.args.bytes.now c.in-Some.lambda c.in-Some.behind.now
    c.in-Some-after.second.now part counts c.in-Some-after.ensures.some sound same in
    let none : CountsNone (2 ^ 56) 32 c.in-Some-after.second.now =
    rw c.in_default-read.is at c.in_ok-read-2.ensures.none in
    none found.0 [] found.2

pub returns-else-is_empty : goal.returns-else-is_empty
returns-else-is_empty c = λ part sound same.
    let counts : IsCounted (2 ^ 56) 64 c.args.bytes.now c.in-Some.lambda c.in-Some.behind.now =
    rw c.in-Some.is at c.in_ok-read.ensures.some in
    let counts_second : IsCounted (2 ^ 56) 32 c.in-Some-after.second.now c.in-Some-read.mu c.in-Some-read.rest.now =
    rw c.in-Some-read.is at c.in_ok-read-2.ensures.some in
    let nothing = dual_read c.args.bytes.now c.in-Some.lambda c.in-Some.behind.now c.in-Some-after.second.now
    c.in-Some-read.mu c.in-Some-read.rest.now part counts c.in-Some-after.ensures.some counts_second sound same in
    let empty : length c.in-Some-read.rest.now ≡ 0 = ap (λ bytes. length bytes) nothing in
    grind (arith, nat_tests, empty)
