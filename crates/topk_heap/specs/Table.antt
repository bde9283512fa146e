-- What clauses see of a table.
use Rattle.std.specs.Prelude.{◌≡◌, ℕ, ℤ, ◌≤◌, List, [], length}
use Rattle.topk_heap.specs.Places.{listed, HasLasts, IsOrder}
use Rattle.topk_heap.specs.Ranking.{IsAscending, dropped_keys, with_score}
use Rattle.topk_heap.specs.declared.entry.Entry.{Entry}

-- how many keys are held at most, and the held ones
pub record Table : Type 0 where
  pub size : ℕ
  pub entries : List Entry

-- the keys that an offer to a table drops: none or one
abbrev pub drops : Table → List ℕ → ℤ → List (List ℕ)
drops table key score = dropped_keys table.size (with_score table.entries key score)

-- a table that holds no key
abbrev pub empty_table : ℕ → Table
empty_table size = record { size = size; entries = [] }

-- what every table is: of a size from 1 to 1,024, with at most so many entries, in strictly ascending order of keys
pub record IsTable (table : Table) : Type 0 where
  pub some : 1 ≤ table.size
  pub limit : table.size ≤ 1024
  pub few : length table.entries ≤ table.size
  pub ascending : IsAscending table.entries

-- a table in slots, in an order that ascends by key: there is room for all entries that it may hold, and where it is full
-- the slot that ranks last is known of each group
pub record IsStored (size : ℕ) (slots : List Entry) (order lasts : List ℕ) (slots_room order_room : ℕ) : Type 0 where
  pub whole : IsTable (record { size = size; entries = listed slots order })
  pub numbers : IsOrder (length slots) order
  pub slots_fit : size ≤ slots_room
  pub order_fits : size ≤ order_room
  pub groups : length lasts ≡ 32
  pub last_ones : length order ≡ size → HasLasts slots lasts
