use Rattle.std.proofs.Common.{arith}
use Rattle.certificate_text.proofs.Spelled.{spelled_stuck}
use Rattle.certificate_text.proofs.counted_numbers.names.Goals as goal

pub returns-in_default-clause-none : goal.returns-in_default-clause-none
returns-in_default-clause-none c =
    spelled_stuck 64 c.loop.counter c.args.count c.args.bytes.now c.loop.names c.loop.rest.now
    (omega arith) c.loop.invariant c.loop-test.true c.in_default.ensures.none
