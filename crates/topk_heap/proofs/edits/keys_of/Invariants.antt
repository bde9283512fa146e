use Rattle.std.proofs.Common.{◌≡◌, map, take}
use Rattle.topk_heap.specs.Places.{listed}
use Rattle.topk_heap.specs.declared.entry.Entry.{Entry}
use Rattle.topk_heap.proofs.edits.keys_of.Given as goal

abbrev pub invariant-loop-place : goal.invariant-loop-place
invariant-loop-place l = l.keys.items ≡ map (λ (e : Entry). e.key) (listed l.slots (take l.place l.order))
