-- The items of a frame that stand whole in a piece.
use Rattle.std.specs.Prelude.{◌≡◌, ◌≤◌, ℕ, ◌+◌, ◌==◌, List, [], ◌++◌, take, drop, IsTrue, if◌then◌else◌}
use Rattle.byteorder.specs.Endian.{little_number}
use Rattle.byte_format.specs.Format.{At, reached, yields}
use Rattle.byte_format.specs.Keys.{key_size, key_words}
use Rattle.flow_keys.specs.Key.{is_valid}
use Rattle.job_format.specs.Given.{item_gives, need_gives, site_gives}
use Rattle.job_format.specs.Job.{weight_limit}
use Rattle.job_format.specs.Places.{job_format}
use Rattle.job_format.specs.declared.item.Item.{Item}
use Rattle.job_format.specs.declared.place.HeadNumbers.{HeadNumbers}
use Rattle.job_format.specs.declared.place.Place.{Place}
use Rattle.job_format.specs.declared.place.Place.TheVariants.{Count, Key}
use Rattle.job_format.specs.declared.place.Tally.{Tally}

-- behind so many items with so much weight, where so many are left of a frame: at the key of the next, or behind it
abbrev pub place_in_frame : HeadNumbers → ℕ → ℕ → ℕ → Place
place_in_frame h items weight left =
    let tally : Tally = record { items = items; weight = weight } in
    if left == 0 then Count h tally else Key h tally left

-- these bytes are an item, which is right behind items of so much weight
pub record IsItemBehind (before : ℕ) (bytes : List ℕ) (item : Item) : Type 0 where
  pub key : item.key ≡ key_words (take key_size bytes)
  pub valid : IsTrue (is_valid (key_words (take key_size bytes)))
  pub weight : item.weight ≡ little_number 4 (drop key_size bytes)
  pub light : before + item.weight ≤ weight_limit

-- these bytes lead from one place to another, and give the items behind those that were there, and nothing else
pub record ReadsItems (from to : Place) (bytes : List ℕ) (before after : List Item) : Type 0 where
  pub leads : reached job_format (At from []) bytes ≡ At to []
  pub items : after ≡ before ++ yields job_format item_gives (At from []) bytes
  pub sites : yields job_format site_gives (At from []) bytes ≡ []
  pub needs : yields job_format need_gives (At from []) bytes ≡ []
