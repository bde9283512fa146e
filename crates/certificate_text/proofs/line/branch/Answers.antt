use Rattle.std.proofs.Common.{◌≡◌, [], length, refl, sym, ◌∙◌, ap, arith, append-nil}
use Rattle.std.specs.Fmt.{decimal}
use Rattle.std.proofs.lemmas.Bool.Decides.{nat_tests}
use Rattle.certificate_text.proofs.Heads.{branch_read}
use Rattle.certificate_text.proofs.Lines.{branch_children}
use Rattle.certificate_text.proofs.line.branch.Goals as goal

pub returns-in_default : goal.returns-in_default
returns-in_default c = λ part sound same.
    let found = branch_children c.args.bytes.now part sound same in
    c.in_default.ensures.none found.0 [] (omega (arith, found.2)) refl (found.4 ∙ sym (append-nil (decimal found.0)))

pub returns-then-children-eq0 : goal.returns-then-children-eq0
returns-then-children-eq0 c = λ part sound same.
    let read = branch_read c.args.bytes.now c.in-Some.rest.now c.in-Some.children part c.in-Some.ensures.below
    c.in-Some.ensures.spelled c.in-Some.ensures.parted sound same in
    absurd (omega (arith, read.0))

pub returns-else-is_empty : goal.returns-else-is_empty
returns-else-is_empty c = λ part sound same.
    let read = branch_read c.args.bytes.now c.in-Some.rest.now c.in-Some.children part c.in-Some.ensures.below
    c.in-Some.ensures.spelled c.in-Some.ensures.parted sound same in
    let empty : length c.in-Some.rest.now ≡ 0 = ap (λ bytes. length bytes) read.1 in
    grind (arith, nat_tests, empty)
