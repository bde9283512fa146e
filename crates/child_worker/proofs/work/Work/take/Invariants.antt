use Rattle.std.proofs.Common.{ℕ, List, ◌-◌, ◌≤◌, ◌++◌, length, take}
use Rattle.child_worker.specs.Work.{HasWorked}
use Rattle.child_worker.proofs.work.Work.take.Given as goal

abbrev pub invariant-loop-start : goal.invariant-loop-start
invariant-loop-start l =
    (l.start ≤ length l.piece)
    × ((bytes : List ℕ) → HasWorked l.initial.self bytes → HasWorked l.self (bytes ++ take l.start l.piece))

abbrev pub decreases-loop-start : goal.decreases-loop-start
decreases-loop-start l = length l.piece - l.start
