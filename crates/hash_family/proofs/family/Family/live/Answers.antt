use Rattle.std.proofs.Common.{arith, sym}
use Rattle.hash_family.proofs.Live.{is_live-none, live_on, dead_from}
use Rattle.hash_family.proofs.family.Family.live.Goals as goal

pub loop-below-init : goal.loop-below-init
loop-below-init c = is_live-none c.args.self.now c.args.key.now

pub returns-then-not-samples : goal.returns-then-not-samples
returns-then-not-samples c =
    record { value = sym (dead_from c.args.self.now c.loop-below.below c.args.level c.args.key.now (omega arith) cc) }

pub loop-below-preserved : goal.loop-below-preserved
loop-below-preserved c =
    live_on c.args.self.now c.loop-below.below c.args.key.now c.loop-below.invariant cc
