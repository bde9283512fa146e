-- The estimate of a key, as the middle one of what its rows say.
use Rattle.std.specs.Prelude.{ℕ, ◌+◌, ◌*◌, ◌≤◌, ◌&&◌, nat_lt, Bool, List, length, map, find, count_by, Contains}
use Rattle.std.specs.Prelude.{slice_index_or, unwrap_or, ℤ, pos, ◌*ℤ◌, int_lt, int_le}
use Rattle.std.specs.List.{range_with_len}
use Rattle.hash_family.specs.Hash.{bucket, sign}

-- what a row says of a key: its counter, with its sign
unfoldable pub row_estimate : ℕ → ℕ → ℕ → List ℤ → List ℕ → ℕ → ℤ
row_estimate seed level width counters key row =
    sign seed level row key *ℤ slice_index_or counters (row * width + bucket seed level row width key) (pos 0)

-- what each row says of a key
abbrev pub row_estimates : ℕ → ℕ → ℕ → ℕ → List ℤ → List ℕ → List ℤ
row_estimates seed level rows width counters key =
    map (row_estimate seed level width counters key) (range_with_len 0 rows)

-- one of the numbers, of an odd number of them: more than half are at most it, and more than half at least it
pub record IsMiddle (xs : List ℤ) (x : ℤ) : Type 0 where
  pub one : Contains xs x
  pub low : length xs + 1 ≤ 2 * count_by (λ y. int_le y x) xs
  pub high : length xs + 1 ≤ 2 * count_by (λ y. int_le x y) xs

-- fewer than half of the numbers are below x, and fewer than half above
unfoldable pub is_middle : List ℤ → ℤ → Bool
is_middle xs x =
    nat_lt (2 * count_by (λ y. int_lt y x) xs) (length xs) && nat_lt (2 * count_by (λ y. int_lt x y) xs) (length xs)

-- the first number that is in the middle
unfoldable pub middle : List ℤ → ℤ
middle xs = unwrap_or (find (is_middle xs) xs) (pos 0)

-- the estimate of a key
unfoldable pub estimate : ℕ → ℕ → ℕ → ℕ → List ℤ → List ℕ → ℤ
estimate seed level rows width counters key =
    middle (map (row_estimate seed level width counters key) (range_with_len 0 rows))
