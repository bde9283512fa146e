-- Places in a list of entries, and the slots where the entries stand.
use Rattle.std.specs.Prelude.{◌≡◌, ℕ, pos, ◌*◌, ◌/◌, ◌<◌, ◌≤◌, false, List, [], length, map, take, slice_index_or, All, Contains, Result, Ok, Err}
use Rattle.std.specs.Cmp.Lexicographic.{slice_cmp}
use Rattle.std.specs.declared.cmp.Ordering.TheVariants.{Less, Equal, Greater}
use Rattle.std.specs.Ordering.{nat_cmp}
use Rattle.topk_heap.specs.Ranking.{ranks_before}
use Rattle.topk_heap.specs.declared.entry.Entry.{Entry}

-- all keys before this place are lesser
pub record HasLesserBefore (entries : List Entry) (key : List ℕ) (place : ℕ) : Type 0 where
  pub within : place ≤ length entries
  pub lesser : All (λ e. slice_cmp nat_cmp e.key key ≡ Less) (take place entries)

-- the key stands at the place, or the first greater key does, if there is one
abbrev pub IsPlace : List Entry → List ℕ → Result ℕ ℕ → Type 0
IsPlace entries key (Ok place) =
    HasLesserBefore entries key place × (place < length entries)
    × ((d : Entry) → slice_cmp nat_cmp (slice_index_or entries place d).key key ≡ Equal)
IsPlace entries key (Err place) =
    HasLesserBefore entries key place
    × (place < length entries → (d : Entry) → slice_cmp nat_cmp (slice_index_or entries place d).key key ≡ Greater)

-- the entry at the place ranks before no other
pub record RanksLast (entries : List Entry) (place : ℕ) : Type 0 where
  pub within : place < length entries
  pub last : (d : Entry) → All (λ e. ranks_before (slice_index_or entries place d) e ≡ false) entries

-- the entry of a slot
abbrev pub entry_at : List Entry → ℕ → Entry
entry_at slots slot = slice_index_or slots slot (record { key = []; score = pos 0 })

-- the entries of these slots, in this order
abbrev pub listed : List Entry → List ℕ → List Entry
listed slots order = map (entry_at slots) order

-- the numbers below `count`, each of them once
pub record IsOrder (count : ℕ) (order : List ℕ) : Type 0 where
  pub long : length order ≡ count
  pub below : All (λ slot. slot < count) order
  pub each : (slot : ℕ) → slot < count → Contains order slot

-- a group is 32 slots in a row: of those of its group, the slot's entry ranks before none
pub record RanksLastOfGroup (slots : List Entry) (group slot : ℕ) : Type 0 where
  pub within : slot < length slots
  pub inside : slot / 32 ≡ group
  pub last : (other : ℕ) (d : Entry) → other < length slots → other / 32 ≡ group
      → ranks_before (slice_index_or slots slot d) (slice_index_or slots other d) ≡ false

-- for each group with a slot, the one that ranks last of the group
abbrev pub HasLasts : List Entry → List ℕ → Type 0
HasLasts slots lasts =
    (group d : ℕ) → group * 32 < length slots → RanksLastOfGroup slots group (slice_index_or lasts group d)
