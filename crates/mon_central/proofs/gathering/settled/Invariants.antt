use Rattle.std.proofs.Common.{take}
use Rattle.sketch_levels.specs.Stands.{packets_of, weights_of}
use Rattle.mon_central.specs.Sketched.{IsFed}
use Rattle.mon_central.proofs.gathering.settled.Given as goal

abbrev pub invariant-loop-index : goal.invariant-loop-index
invariant-loop-index l =
    IsFed l.setting l.sketched (weights_of (take l.index l.tally)) (packets_of (take l.index l.tally))
