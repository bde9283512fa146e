use Rattle.mon_central.proofs.LiveCounts.{HasCounted}
use Rattle.mon_central.proofs.live.count_live.Given as goal

abbrev pub invariant-loop-level : goal.invariant-loop-level
invariant-loop-level l =
    HasCounted l.packets l.initial.live l.live l.level × HasCounted l.weight l.initial.weights l.weights l.level
