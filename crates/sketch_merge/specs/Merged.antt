-- What clauses see of merged sketches, and of the difference of two.
use Rattle.std.specs.Prelude.{◌≡◌, ◌^◌, ℕ, ◌+◌, ◌*◌, ◌≤◌, ◌||◌, Bool, List, [], fold, length, slice_index_or}
use Rattle.std.specs.Prelude.{All, IsTrue, ℤ}
use Rattle.std.specs.BTreeSet.{insert_key}
use Rattle.std.specs.Cmp.Lexicographic.{slice_cmp}
use Rattle.std.specs.Ordering.{nat_cmp}
use Rattle.std.specs.List.Sorted.{IsStrictlySortedBy}
use Rattle.std.specs.Simd.Lanes.{zip2}
use Rattle.hash_family.specs.Limits.{are_within}
use Rattle.hash_family.specs.Setting.{Setting}
use Rattle.count_sketch.specs.Counters.{AllUpTo, minus}

-- the counters and the named keys of each level from 0 on, whether a heap dropped a key, and the weight
pub record View : Type 0 where
  pub setting : Setting
  pub weight : ℕ
  pub counters : List (List ℤ)
  pub keys : List (List (List ℕ))
  pub dropped : Bool

-- the counters of a level, in order of row, then bucket
unfoldable pub counters_at : View → ℕ → List ℤ
counters_at view level = slice_index_or view.counters level []

-- the keys that are named at a level
unfoldable pub keys_at : View → ℕ → List (List ℕ)
keys_at view level = slice_index_or view.keys level []

-- the keys of two lists, in ascending order where the first list is: each key of the second put in its place
unfoldable pub united : List (List ℕ) → List (List ℕ) → List (List ℕ)
united keys more = fold (λ all key. insert_key (slice_cmp nat_cmp) all key) keys more

-- the counters of the first less those of the second, the keys of both, and the weight of the first
abbrev pub difference : View → View → View
difference of less = record {
  setting = of.setting;
  weight = of.weight;
  counters = zip2 minus of.counters less.counters;
  keys = zip2 united of.keys less.keys;
  dropped = of.dropped || less.dropped;
}

-- no level has more than n keys
pub record HaveUpTo (n : ℕ) (keys : List (List (List ℕ))) : Type 0 where
  pub each : All (λ level. length level ≤ n) keys

-- what merged sketches are: within the limits, with counters of one shape and ascending keys at each level, no
-- absolute counter above 2^45
pub record IsView (view : View) : Type 0 where
  pub within : IsTrue (are_within view.setting.levels view.setting.rows view.setting.width view.setting.heap)
  pub levels : length view.counters ≡ view.setting.levels + 1
  pub key_levels : length view.keys ≡ view.setting.levels + 1
  pub shape : All (λ counters. length counters ≡ view.setting.rows * view.setting.width) view.counters
  pub small : All (λ counters. AllUpTo (2 ^ 45) counters) view.counters
  pub ascending : All (λ keys. IsStrictlySortedBy (slice_cmp nat_cmp) keys) view.keys
