-- There are no more of them than needs so far.
use Rattle.std.proofs.Common.{◌≤◌, length}
use Rattle.placement_search.proofs.crowd.confined.Given as goal

abbrev pub invariant-loop-other : goal.invariant-loop-other
invariant-loop-other l = length l.names ≤ l.other
