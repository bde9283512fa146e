use Rattle.std.proofs.Common.{take}
use Rattle.child_worker.proofs.Feeding.{AreFed}
use Rattle.child_worker.proofs.work.feed_all.Given as goal

abbrev pub invariant-loop-item : goal.invariant-loop-item
invariant-loop-item l = AreFed l.initial.levels l.levels (take l.item-index l.items)
