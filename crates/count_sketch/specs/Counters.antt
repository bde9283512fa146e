-- Counters, as signed sums over a list of items.
use Rattle.std.specs.Prelude.{ℕ, ◌*◌, ◌/◌, ◌%◌, ◌≤◌, ◌==◌, if◌then◌else◌, List, map, fold, All}
use Rattle.std.specs.Prelude.{ℤ, pos, ◌+ℤ◌, ◌-ℤ◌, ◌*ℤ◌, unsigned_abs}
use Rattle.std.specs.List.{range_with_len}
use Rattle.std.specs.Simd.Lanes.{zip2}
use Rattle.hash_family.specs.Hash.{bucket, sign}

-- a key's packet
pub record Item : Type 0 where
  pub key : List ℕ
  pub weight : ℕ

-- what a contract sees of a sketch: its counters in order of row, then bucket
pub record Grid : Type 0 where
  pub rows : ℕ
  pub width : ℕ
  pub counters : List ℤ

-- what an item adds to a counter: its weight, with its sign, where the counter is in its bucket
unfoldable pub share : ℕ → ℕ → ℕ → ℕ → ℕ → Item → ℤ
share seed level width row place item =
    if bucket seed level row width item.key == place
    then sign seed level row item.key *ℤ pos item.weight
    else pos 0

-- the sum of f over a list
abbrev pub int_sum_by : {X : Type 0} → (X → ℤ) → List X → ℤ
int_sum_by f xs = fold (λ total x. total +ℤ f x) (pos 0) xs

-- the counter at a place of a row
unfoldable pub counter : ℕ → ℕ → ℕ → ℕ → ℕ → List Item → ℤ
counter seed level width row place items = int_sum_by (share seed level width row place) items

-- all counters of a list of items at a level
unfoldable pub counters_of : ℕ → ℕ → ℕ → ℕ → List Item → List ℤ
counters_of seed level rows width items =
    map (λ place. counter seed level width (place / width) (place % width) items) (range_with_len 0 (rows * width))

-- the sketch of a list of items at a level
abbrev pub grid_of : ℕ → ℕ → ℕ → ℕ → List Item → Grid
grid_of seed level rows width items =
    record { rows = rows; width = width; counters = counters_of seed level rows width items }

-- place by place
abbrev pub plus : List ℤ → List ℤ → List ℤ
plus xs ys = zip2 ◌+ℤ◌ xs ys

abbrev pub minus : List ℤ → List ℤ → List ℤ
minus xs ys = zip2 ◌-ℤ◌ xs ys

-- each counter's absolute value is at most n
pub record AllUpTo (n : ℕ) (counters : List ℤ) : Type 0 where
  pub each : All (λ value. unsigned_abs value ≤ n) counters
