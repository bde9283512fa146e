use Rattle.std.proofs.Common.{◌^◌, arith}
use Rattle.certificate_text.proofs.Outcomes.{none_says}
use Rattle.certificate_text.proofs.Spelled.{counted_none, counted_stuck}
use Rattle.certificate_text.proofs.counted_numbers.counted_prices.Goals as goal

pub returns-in_default-clause-none : goal.returns-in_default-clause-none
returns-in_default-clause-none c = counted_none (2 ^ 56) c.args.most c.args.bytes.now c.in_default.ensures.none

pub returns-clause-none : goal.returns-clause-none
returns-clause-none c =
    none_says c.prices.result
    (counted_stuck (2 ^ 56) c.args.most c.in-Some.count c.args.bytes.now c.in-Some.rest.now
    (omega (arith, c.in-Some.ensures.below)) (omega arith) c.in-Some.ensures.parted c.in-Some.ensures.spelled)
    c.prices.ensures.none
