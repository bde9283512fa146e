-- The keys with the greatest absolute numbers.
use Rattle.std.specs.Prelude.{ℕ, ◌*◌, ◌&&◌, nat_lt, Bool, if◌then◌else◌, List, [], fold, filter, map, Contains}
use Rattle.std.specs.Prelude.{ℤ, pos, ◌*ℤ◌, ◌<ℤ◌, int_le, int_lt, unsigned_abs}
use Rattle.std.specs.BTreeSet.{insert_key}
use Rattle.std.specs.Cmp.Lexicographic.{slice_cmp}
use Rattle.std.specs.List.{IsDistinct}
use Rattle.std.specs.Map.{keys_of}
use Rattle.std.specs.declared.cmp.Ordering.{Ordering}
use Rattle.std.specs.Ordering.{nat_cmp, ordering_then, eq_by_cmp}
use Rattle.sketch_merge.specs.Merged.{View, keys_at}
use Rattle.recursive_sum.specs.Sum.{estimate_at}

-- no two pairs have one key
pub record HaveOwnKeys (pairs : List (List ℕ × ℤ)) : Type 0 where
  pub distinct : IsDistinct (eq_by_cmp (slice_cmp nat_cmp)) (keys_of pairs)

-- an absolute value above 0, and of at least so many thousandths of the total
unfoldable pub is_great : ℕ → ℤ → ℕ → Bool
is_great per_mille total size = nat_lt 0 size && int_le (pos per_mille *ℤ total) (pos (size * 1000))

-- a pair whose number has such an absolute value
unfoldable pub is_selected : ℕ → ℤ → (List ℕ × ℤ) → Bool
is_selected per_mille total pair = is_great per_mille total (unsigned_abs pair.1)

-- the order of the selected: the greater absolute value first, then the lesser key
unfoldable pub by_rank : (List ℕ × ℤ) → (List ℕ × ℤ) → Ordering
by_rank a b = ordering_then (nat_cmp (unsigned_abs b.1) (unsigned_abs a.1)) (slice_cmp nat_cmp a.0 b.0)

-- pairs in that order
unfoldable pub in_order : List (List ℕ × ℤ) → List (List ℕ × ℤ)
in_order pairs = fold (λ ordered pair. insert_key by_rank ordered pair) [] pairs

-- the selected pairs in that order
abbrev pub selection : ℕ → ℤ → List (List ℕ × ℤ) → List (List ℕ × ℤ)
selection per_mille total pairs = in_order (filter (is_selected per_mille total) pairs)

-- a number, or 0 where it is negative
abbrev pub clipped : ℤ → ℤ
clipped x = if int_lt (pos 0) x then x else pos 0

-- the keys of level 0 with their clipped estimates
unfoldable pub heavy_pairs : ℕ → View → List (List ℕ × ℤ)
heavy_pairs seed view = map (λ key. (key, clipped (estimate_at seed view 0 key))) (keys_at view 0)

-- the heavy keys: those of at least so many thousandths of the weight
abbrev pub heavy_keys : ℕ → ℕ → View → List (List ℕ × ℤ)
heavy_keys seed per_mille view = selection per_mille (pos view.weight) (heavy_pairs seed view)

-- a key that level 0 names, with a number above 0
pub record IsHeavy (view : View) (pair : List ℕ × ℤ) : Type 0 where
  pub named : Contains (keys_at view 0) pair.0
  pub above : pos 0 <ℤ pair.1
