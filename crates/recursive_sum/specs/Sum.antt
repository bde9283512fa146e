-- The recursive sum of UnivMon over the levels of merged sketches.
use Rattle.std.specs.Prelude.{◌≡◌, ℕ, suc, zero, ◌+◌, ◌≤◌, if◌then◌else◌, List, filter, Contains}
use Rattle.std.specs.Prelude.{ℤ, pos, negsuc, ◌+ℤ◌, ◌*ℤ◌, int_lt, unsigned_abs}
use Rattle.hash_family.specs.Hash.{is_live, is_sampled}
use Rattle.count_sketch.specs.Counters.{int_sum_by}
use Rattle.count_sketch.specs.Estimate.{estimate}
use Rattle.sketch_merge.specs.Merged.{View, counters_at, keys_at}
use Rattle.recursive_sum.specs.declared.measure.G.{G}
use Rattle.recursive_sum.specs.declared.measure.G.TheVariants.{One, Value, Abs}

-- what a number counts: 1 where it is above 0, the number where it is above 0, or its absolute value
unfoldable pub g_of : G → ℤ → ℤ
g_of One x = if int_lt (pos 0) x then pos 1 else pos 0
g_of Value x = if int_lt (pos 0) x then x else pos 0
g_of Abs x = pos (unsigned_abs x)

-- the estimate of a key at a level
unfoldable pub estimate_at : ℕ → View → ℕ → List ℕ → ℤ
estimate_at seed view level key =
    estimate seed level view.setting.rows view.setting.width (counters_at view level) key

-- what the estimate of a key counts at a level
unfoldable pub counts_at : ℕ → G → View → ℕ → List ℕ → ℤ
counts_at seed g view level key = g_of g (estimate_at seed view level key)

-- 1 less twice the sample bit of a level
unfoldable pub turn : ℕ → ℕ → List ℕ → ℤ
turn seed level key = if is_sampled seed level key then negsuc 0 else pos 1

-- what the estimate of a key counts at a level, turned where the next level samples the key
unfoldable pub turned_at : ℕ → G → View → ℕ → List ℕ → ℤ
turned_at seed g view level key = turn seed (level + 1) key *ℤ counts_at seed g view level key

-- the sum at a level with so many levels above it: at the highest the sum of what its keys count; below, twice the
-- sum at the next level, and what the level's own keys count, turned where the next level samples the key
unfoldable pub sum_at : ℕ → G → View → ℕ → ℕ → ℤ
sum_at seed g view level zero = int_sum_by (counts_at seed g view level) (keys_at view level)
sum_at seed g view level (suc above) =
    (pos 2 *ℤ sum_at seed g view (level + 1) above) +ℤ int_sum_by (turned_at seed g view level) (keys_at view level)

-- the recursive sum: that at level 0
unfoldable pub recursive_sum : ℕ → G → View → ℤ
recursive_sum seed g view = sum_at seed g view 0 view.setting.levels

-- each level names exactly the keys of level 0 that are live there, and at each such level the estimate of a key is one
-- number of its own
pub record IsClear (seed : ℕ) (view : View) (number : List ℕ → ℤ) : Type 0 where
  pub live : (level : ℕ) → level ≤ view.setting.levels
      → keys_at view level ≡ filter (λ key. is_live seed level key) (keys_at view 0)
  pub one : (level : ℕ) (key : List ℕ) → level ≤ view.setting.levels → Contains (keys_at view level) key
      → estimate_at seed view level key ≡ number key
