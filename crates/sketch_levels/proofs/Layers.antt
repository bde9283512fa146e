-- The level of a list of items, and one item more.
use Rattle.std.proofs.Common.{◌≡◌, ℕ, ◌+◌, ◌≤◌, ◌||◌, Bool, true, false, inl, inr, List, [], ◌∷◌, ◌++◌, length, refl}
use Rattle.std.proofs.Common.{sym, ◌∙◌, ap}
use Rattle.std.specs.Prelude.{nat_lt}
use Rattle.std.proofs.lemmas.Bool.{cases_lt, le-ltb, lt-ltb}
use Rattle.count_sketch.specs.Counters.{Item, Grid, grid_of, AllUpTo}
use Rattle.count_sketch.specs.Estimate.{estimate}
use Rattle.topk_heap.specs.Ranking.{best, with_score}
use Rattle.topk_heap.specs.Table.{Table}
use Rattle.topk_heap.specs.declared.entry.Entry.{Entry}
use Rattle.hash_family.specs.Setting.{Setting}
use Rattle.sketch_levels.specs.Kept.{is_dropped, kept, score}
use Rattle.sketch_levels.specs.Levels.{Layer, layer_of, IsLayer}
use Rattle.sketch_levels.proofs.Kept.{is_dropped-none, is_dropped-push, kept-none, kept-push}

abbrev layer : Grid → Table → Bool → Layer
layer sketch heap dropped = record { sketch = sketch; heap = heap; dropped = dropped }

abbrev table : ℕ → List Entry → Table
table size entries = record { size = size; entries = entries }

-- no items
pub layer_of-none : (setting : Setting) (level : ℕ)
    → layer (grid_of setting.seed level setting.rows setting.width []) (table setting.heap []) false
    ≡ layer_of setting level []
unfolding layer_of
layer_of-none setting level =
    ap (λ (entries : List Entry). layer (grid_of setting.seed level setting.rows setting.width [])
    (table setting.heap entries) false) (sym (kept-none setting level))
    ∙ ap (λ (mark : Bool). layer (grid_of setting.seed level setting.rows setting.width [])
    (table setting.heap (kept setting level [])) mark) (sym (is_dropped-none setting))

-- what an item does to a level
pub record IsFed (seed level : ℕ) (item : Item) (old new : Layer) : Type 0 where
  pub sketch : (items : List Item) → old.sketch ≡ grid_of seed level old.sketch.rows old.sketch.width items
      → new.sketch ≡ grid_of seed level old.sketch.rows old.sketch.width (items ++ item ∷ [])
  pub size : new.heap.size ≡ old.heap.size
  pub entries : new.heap.entries ≡ best old.heap.size
      (with_score old.heap.entries item.key
      (estimate seed level new.sketch.rows new.sketch.width new.sketch.counters item.key))
  pub dropped : new.dropped ≡
      (old.dropped || nat_lt old.heap.size
      (length (with_score old.heap.entries item.key
      (estimate seed level new.sketch.rows new.sketch.width new.sketch.counters item.key))))

-- the mark where all keys are kept, and where one isn't
pub mark_stays : (mark : Bool) (size number : ℕ) → number ≤ size → mark ≡ (mark || nat_lt size number)
mark_stays true size number few = refl
mark_stays false size number few = sym (le-ltb size number few)

pub mark_set : (mark : Bool) (size number : ℕ) → (number ≤ size → ⊥) → true ≡ (mark || nat_lt size number)
mark_set true size number many = refl
mark_set false size number many = elim (cases_lt size number) [
  | inl above ↦ sym (lt-ltb size number above)
  | inr few ↦ absurd (many few)
]

fed_sketch : (setting : Setting) (level : ℕ) (items : List Item) (item : Item) (old new : Layer)
    → IsFed setting.seed level item old new → old ≡ layer_of setting level items
    → new.sketch ≡ grid_of setting.seed level setting.rows setting.width (items ++ item ∷ [])
unfolding layer_of
fed_sketch setting level items item old new fed is =
    let grid : old.sketch ≡ grid_of setting.seed level setting.rows setting.width items =
    ap (λ (l : Layer). l.sketch) is in
    let before : Grid → Grid = λ g. grid_of setting.seed level g.rows g.width items in
    let after : Grid → Grid = λ g. grid_of setting.seed level g.rows g.width (items ++ item ∷ []) in
    fed.sketch items (grid ∙ sym (ap before grid)) ∙ ap after grid

-- the level of a list becomes that of the list with the item at its end
pub layer_of-push : (setting : Setting) (level : ℕ) (items : List Item) (item : Item) (old new : Layer)
    → IsFed setting.seed level item old new → old ≡ layer_of setting level items
    → new ≡ layer_of setting level (items ++ item ∷ [])
unfolding layer_of score
layer_of-push setting level items item old new fed is =
    let grid = fed_sketch setting level items item old new fed is in
    let size : old.heap.size ≡ setting.heap = ap (λ (l : Layer). l.heap.size) is in
    let entries : old.heap.entries ≡ kept setting level items = ap (λ (l : Layer). l.heap.entries) is in
    let mark : old.dropped ≡ is_dropped setting items = ap (λ (l : Layer). l.dropped) is in
    let s = score setting level (items ++ item ∷ []) item.key in
    let value : estimate setting.seed level new.sketch.rows new.sketch.width new.sketch.counters item.key ≡ s =
    ap (λ (g : Grid). estimate setting.seed level g.rows g.width g.counters item.key) grid in
    let held : new.heap.entries ≡ kept setting level (items ++ item ∷ []) =
    fed.entries ∙ rw (size, entries, value) (sym (kept-push setting level items item)) in
    let dropped : new.dropped ≡ is_dropped setting (items ++ item ∷ []) =
    fed.dropped ∙ rw (size, entries, mark, value) (sym (is_dropped-push setting level items item s)) in
    let room : new.heap.size ≡ setting.heap = fed.size ∙ size in
    λ i. layer (grid i) (table (room i) (held i)) (dropped i)

-- the shape stays
pub IsLayer-fed : (setting : Setting) (n weight : ℕ) (old new : Layer) → IsLayer setting n old
    → new.sketch.rows ≡ old.sketch.rows → new.sketch.width ≡ old.sketch.width → new.heap.size ≡ old.heap.size
    → (AllUpTo n old.sketch.counters → AllUpTo (n + weight) new.sketch.counters) → IsLayer setting (n + weight) new
IsLayer-fed setting n weight old new shape rows width size bound = record {
  rows = rows ∙ shape.rows;
  width = width ∙ shape.width;
  heap = size ∙ shape.heap;
  bound = bound shape.bound;
}
