use Rattle.std.proofs.Common.{arith}
use Rattle.certificate_text.proofs.Numerals.{value_below, value_more}
use Rattle.certificate_text.proofs.numeral.value.Goals as goal

pub overflow_mul-value : goal.overflow_mul-value
overflow_mul-value c =
    omega (
      arith,
      value_below c.args.digits.now c.loop-digit.digit-index 17 c.requires.digits
          (omega arith),
      c.loop-digit.invariant,
    )

pub overflow_sub-digit : goal.overflow_sub-digit
overflow_sub-digit c =
    (value_more c.args.digits.now c.loop-digit.digit-index c.requires.digits c.loop-digit-test.true).0.0

pub overflow_add-value : goal.overflow_add-value
overflow_add-value c =
    let digit = (value_more c.args.digits.now c.loop-digit.digit-index c.requires.digits c.loop-digit-test.true).0 in
    omega (
      arith,
      value_below c.args.digits.now c.loop-digit.digit-index 17 c.requires.digits
          (omega arith),
      c.loop-digit.invariant,
      digit.1,
      c.from.ensures,
    )

pub loop-digit-preserved : goal.loop-digit-preserved
loop-digit-preserved c =
    let more = value_more c.args.digits.now c.loop-digit.digit-index c.requires.digits c.loop-digit-test.true in
    omega (arith, more.0.0, more.1, c.loop-digit.invariant, c.from.ensures)

pub returns-clause-small : goal.returns-clause-small
returns-clause-small c =
    omega (
      arith,
      value_below c.args.digits.now c.loop-digit.digit-index 17 c.requires.digits
          (omega arith),
      c.loop-digit.invariant,
    )
