use Rattle.std.proofs.Common.{◌≡◌, [], length, ap, arith}
use Rattle.std.proofs.lemmas.Bool.Decides.{nat_tests}
use Rattle.certificate_text.specs.Numeral.{IsCounted, CountsNone}
use Rattle.certificate_text.proofs.Heads.{hall_read}
use Rattle.certificate_text.proofs.Lines.{hall_names}
use Rattle.certificate_text.proofs.line.hall.Goals as goal

pub returns-in_default : goal.returns-in_default
returns-in_default c = λ part sound same.
    let found = hall_names c.args.bytes.now part sound same in
    let none : CountsNone 64 64 c.args.bytes.now = rw c.in_default.is at c.in_ok-read.ensures.none in
    none found.0 [] found.2

pub returns-else-is_empty : goal.returns-else-is_empty
returns-else-is_empty c = λ part sound same.
    let counts : IsCounted 64 64 c.args.bytes.now c.in-Some.names c.in-Some.rest.now =
    rw c.in-Some.is at c.in_ok-read.ensures.some in
    let empty : length c.in-Some.rest.now ≡ 0 =
    ap (λ bytes. length bytes) (hall_read c.args.bytes.now c.in-Some.names c.in-Some.rest.now part counts sound same) in
    grind (arith, nat_tests, empty)
