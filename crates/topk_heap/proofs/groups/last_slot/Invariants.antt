use Rattle.topk_heap.proofs.LastOnes.{IsLastBelow}
use Rattle.topk_heap.proofs.groups.last_slot.Given as goal

abbrev pub invariant-loop-group : goal.invariant-loop-group
invariant-loop-group l = IsLastBelow l.slots l.last l.group
