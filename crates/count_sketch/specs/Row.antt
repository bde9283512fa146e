-- An item in one row.
use Rattle.std.specs.Prelude.{◌≡◌, ℕ, ◌+◌, ◌*◌, ◌<◌, ◌≤◌, List, length, slice_index_or, slice_set}
use Rattle.std.specs.Prelude.{ℤ, pos, ◌+ℤ◌, ◌*ℤ◌}
use Rattle.hash_family.specs.Hash.{bucket, sign}
use Rattle.count_sketch.specs.Counters.{Item}

-- the place of an item's counter in a row
abbrev pub item_place : ℕ → ℕ → ℕ → ℕ → List ℕ → ℕ
item_place seed level row width key = row * width + bucket seed level row width key

-- the item was added to its counter in a row, and the other counters are as they were
pub record AddsToRow (seed level width : ℕ) (item : Item) (old new : List ℤ) (row : ℕ) : Type 0 where
  pub within : bucket seed level row width item.key < width
  pub fits : row * width + width ≤ length old
  pub written :
      new ≡ slice_set old (item_place seed level row width item.key)
      (slice_index_or old (item_place seed level row width item.key) (pos 0)
      +ℤ (sign seed level row item.key *ℤ pos item.weight))
