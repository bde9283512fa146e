use Rattle.std.proofs.Common.{◌<◌, length, get_or, arith, ◌∙◌, sym, ap}
use Rattle.std.proofs.lemmas.Bool.Decides.{nat_tests}
use Rattle.std.proofs.lemmas.Fmt.{decimal_nonempty, length-decimal-le}
use Rattle.certificate_text.proofs.Numerals.{zero_alone, numeral_is_value, zero_is}
use Rattle.certificate_text.proofs.numeral.numeral.Goals as goal

pub returns-then-is_empty-clause-none : goal.returns-then-is_empty-clause-none
returns-then-is_empty-clause-none c = λ n small is.
    let some : 0 < length c.args.digits.now = rw is (decimal_nonempty n (omega arith)) in
    grind (arith, nat_tests, some)

pub returns-then-digits-gt17-clause-none : goal.returns-then-digits-gt17-clause-none
returns-then-digits-gt17-clause-none c = λ n small is.
    omega (arith, length-decimal-le 17 n (omega arith) (omega arith) (omega arith), ap (λ ds. length ds) is)

pub returns-then-digits-eq1-clause-spelled : goal.returns-then-digits-eq1-clause-spelled
returns-then-digits-eq1-clause-spelled c = zero_is c.args.digits.now c.if-digits-eq1.true c.if-digits-eq48.true

pub returns-else-digits-eq1-clause-none : goal.returns-else-digits-eq1-clause-none
returns-else-digits-eq1-clause-none c = λ n small is.
    c.if-digits-eq1.false
    (ap (λ ds. length ds) is ∙ zero_alone n (omega arith) (sym (ap (λ ds. get_or ds 0 0) is) ∙ c.if-digits-eq48.true))

pub returns-clause-spelled : goal.returns-clause-spelled
returns-clause-spelled c =
    let some : 0 < length c.args.digits.now = grind (arith, nat_tests) in
    rw c.value.ensures.value
    (numeral_is_value c.args.digits.now c.requires some c.if-digits-gt17.false c.if-digits-eq48.false)
