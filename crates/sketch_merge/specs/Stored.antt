-- Merged sketches as they lie in memory: the counters of all levels in one list.
use Rattle.std.specs.Prelude.{◌≡◌, ◌^◌, ℕ, ◌+◌, ◌*◌, Bool, List, length, All, IsTrue, ℤ}
use Rattle.std.specs.Cmp.Lexicographic.{slice_cmp}
use Rattle.std.specs.Ordering.{nat_cmp}
use Rattle.std.specs.List.Sorted.{IsStrictlySortedBy}
use Rattle.hash_family.specs.Limits.{are_within}
use Rattle.hash_family.specs.Setting.{Setting}
use Rattle.count_sketch.specs.Counters.{AllUpTo}
use Rattle.sketch_merge.specs.Levels.{levels_of}
use Rattle.sketch_merge.specs.Merged.{View}

-- what clauses see of these parts
abbrev pub stored_view : Setting → List ℤ → List (List (List ℕ)) → Bool → ℕ → View
stored_view setting counters keys dropped weight = record {
  setting = setting;
  weight = weight;
  counters = levels_of (setting.levels + 1) (setting.rows * setting.width) counters;
  keys = keys;
  dropped = dropped;
}

-- within the limits, with all counters, no absolute counter above 2^45, and ascending keys at each level
pub record IsStored (setting : Setting) (counters : List ℤ) (keys : List (List (List ℕ))) : Type 0 where
  pub within : IsTrue (are_within setting.levels setting.rows setting.width setting.heap)
  pub number : length counters ≡ (setting.levels + 1) * (setting.rows * setting.width)
  pub small : AllUpTo (2 ^ 45) counters
  pub key_levels : length keys ≡ setting.levels + 1
  pub ascending : All (λ level. IsStrictlySortedBy (slice_cmp nat_cmp) level) keys
