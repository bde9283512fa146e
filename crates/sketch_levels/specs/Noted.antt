-- Which keys were noted, and up to which level each is live.
use Rattle.std.specs.Prelude.{◌≡◌, ℕ, ◌≤◌, nat_le, true, false, List, filter, map}
use Rattle.hash_family.specs.Hash.{is_live}
use Rattle.count_sketch.specs.Counters.{Item}
use Rattle.sketch_levels.specs.Items.{distinct, with_key}

-- a key that is noted with the family of a seed
pub record Note : Type 0 where
  pub seed : ℕ
  pub key : List ℕ

-- the distinct keys that were noted with a family by which they are live at a level, in ascending order
unfoldable pub live_keys : ℕ → List Note → List (List ℕ)
live_keys level notes =
    distinct (map (λ note. note.key) (filter (λ note. is_live note.seed level note.key) notes))

-- items whose keys are noted with one family
unfoldable pub notes_of : ℕ → List Item → List Note
notes_of seed items = map (λ item. record { seed = seed; key = item.key }) items

-- what clauses see of noted keys: the highest level, and each key with the highest level at which it is live
pub record Noted : Type 0 where
  pub top : ℕ
  pub entries : List (List ℕ × ℕ)

-- the keys that are live at a level
unfoldable pub keys_at : ℕ → List (List ℕ × ℕ) → List (List ℕ)
keys_at level entries = map (λ entry. entry.0) (filter (λ entry. nat_le level entry.1) entries)

-- entries before and after a key is noted: it joins the keys of each level, up to the highest, where it is live
pub record TakesKey (seed top : ℕ) (key : List ℕ) (old new : List (List ℕ × ℕ)) : Type 0 where
  pub live : (level : ℕ) → level ≤ top → is_live seed level key ≡ true
      → keys_at level new ≡ with_key (keys_at level old) key
  pub dead : (level : ℕ) → level ≤ top → is_live seed level key ≡ false
      → keys_at level new ≡ keys_at level old

-- the keys of each level are those of the notes
pub record HoldsNotes (noted : Noted) (notes : List Note) : Type 0 where
  pub each : (level : ℕ) → level ≤ noted.top → keys_at level noted.entries ≡ live_keys level notes
