use Rattle.std.proofs.Common.{◌≡◌, take, arith, ◌∙◌}
use Rattle.std.specs.Fmt.{decimal}
use Rattle.std.proofs.lemmas.Fmt.{decimal_injective}
use Rattle.std.proofs.lemmas.List.{take_rest}
use Rattle.certificate_text.proofs.Numerals.{digits-take, parted-drop, front_is_number}
use Rattle.certificate_text.proofs.numeral.number.Goals as goal

pub numeral-requires : goal.numeral-requires
numeral-requires c = rw c.run-size.ensures.value (digits-take c.args.bytes.now)

pub returns-in_default-clause-none : goal.returns-in_default-clause-none
returns-in_default-clause-none c = λ n after below parted spelled.
    let front : take c.run-size.result c.args.bytes.now ≡ decimal n =
    rw c.run-size.ensures.value (front_is_number n c.args.bytes.now after (omega arith) parted spelled) in
    c.in_default.ensures.none n (omega arith) front

pub returns-then-number-limit-clause-parted : goal.returns-then-number-limit-clause-parted
returns-then-number-limit-clause-parted c = rw (c.run-size.ensures.value, take_rest) (parted-drop c.args.bytes.now)

pub returns-else-number-limit-clause-none : goal.returns-else-number-limit-clause-none
returns-else-number-limit-clause-none c = λ n after below parted spelled.
    let front : take c.run-size.result c.args.bytes.now ≡ decimal n =
    rw c.run-size.ensures.value (front_is_number n c.args.bytes.now after (omega arith) parted spelled) in
    let same = decimal_injective c.in-Some.number n c.in-Some.ensures.small (omega arith)
    (c.in-Some.ensures.spelled ∙ front) in
    omega (arith, same)
