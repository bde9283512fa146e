use Rattle.std.proofs.Common.{◌≡◌, ℕ, List, map, Vec, Global, Result, Ok, Err}
use Rattle.std.specs.Cmp.Lexicographic.{slice_cmp}
use Rattle.std.specs.List.Sorted.{IsStrictlySortedBy}
use Rattle.std.specs.Ordering.{nat_cmp}
use Rattle.std.specs.Prelude.{IfOk}
use Rattle.topk_heap.specs.Places.{listed}
use Rattle.topk_heap.specs.Ranking.{IsAscending}
use Rattle.topk_heap.specs.declared.entry.Entry.{Entry}
use Rattle.topk_heap.proofs.Scores.{IsStrictlySortedBy-keys}
use Rattle.topk_heap.proofs.top.TopK.keys_sorted.Goals as goal

sorted_if_ok : {E : Type 0} (entries : List Entry) (result : Result (Vec (List ℕ) Global) E) → IsAscending entries
    → IfOk result (λ keys. keys.items ≡ map (λ (e : Entry). e.key) entries)
    → IfOk result (λ keys. IsStrictlySortedBy (slice_cmp nat_cmp) keys.items)
sorted_if_ok entries (Ok keys) ascending same = rw same (IsStrictlySortedBy-keys entries ascending)
sorted_if_ok entries (Err error) ascending same = tt

pub returns-clause-ascending : goal.returns-clause-ascending
returns-clause-ascending c =
    sorted_if_ok (listed c.self.inside.slots.items c.self.inside.order.items) c.keys_of.result c.self.invariant.whole.ascending
    (rw (c.deref.ensures.value, c.deref-2.ensures.value) at c.keys_of.ensures.keys)
