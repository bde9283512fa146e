use Rattle.std.proofs.Common.{◌*◌, ◌≤◌, length}
use Rattle.topk_heap.proofs.LastOnes.{IsLastFrom}
use Rattle.topk_heap.proofs.groups.last_of_group.Given as goal

abbrev pub invariant-loop-slot : goal.invariant-loop-slot
invariant-loop-slot l = IsLastFrom l.slots (l.group * 32) l.last l.slot × (l.slot ≤ length l.slots)
