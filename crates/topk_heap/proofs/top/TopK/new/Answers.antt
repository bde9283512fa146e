use Rattle.std.proofs.Common.{◌≡◌, ◌≤◌, ℕ, List, [], length, ap, arith}
use Rattle.std.specs.List.Sorted.{IsStrictlySortedBy}
use Rattle.topk_heap.specs.Places.{IsOrder, listed}
use Rattle.topk_heap.specs.Table.{IsTable}
use Rattle.topk_heap.specs.declared.entry.Entry.{Entry}
use Rattle.topk_heap.proofs.top.TopK.new.Goals as goal

-- a table of no entries
none_whole : (size : ℕ) (slots : List Entry) (order : List ℕ) → 1 ≤ size → size ≤ 1024 → order ≡ []
    → IsTable (record { size = size; entries = listed slots order })
unfolding IsStrictlySortedBy
none_whole size slots order some limit none = rw none (record {
  some = some;
  limit = limit;
  few = omega arith;
  ascending = tt;
})

none_ordered : (slots : List Entry) (order : List ℕ) → slots ≡ [] → order ≡ [] → IsOrder (length slots) order
none_ordered slots order bare none = rw (bare, none) (record {
  long = omega arith;
  below = λ k d inside. absurd (omega (arith, inside));
  each = λ slot under. absurd (omega (arith, under));
})

pub invariant_of-result : goal.invariant_of-result
invariant_of-result c = record {
  whole = none_whole _ _ _ (omega arith) (omega arith) c.in-Ok-with_capacity.ensures.items;
  numbers = none_ordered _ _ c.in-Ok.ensures.items c.in-Ok-with_capacity.ensures.items;
  slots_fit = omega (arith, c.in-Ok.ensures.capacity);
  order_fits = omega (arith, c.in-Ok-with_capacity.ensures.capacity);
  groups = omega (arith, c.in-Ok-vec.ensures.len);
  last_ones = λ full. absurd (omega (arith, full, ap length c.in-Ok-with_capacity.ensures.items));
}

pub returns-clause-table : goal.returns-clause-table
returns-clause-table c = (invariant_of-result c).whole
