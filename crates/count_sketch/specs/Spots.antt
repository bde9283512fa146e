-- Where a key counts in the rows of a level.
use Rattle.std.specs.Prelude.{◌≡◌, ℕ, ◌<◌, List, slice_index_or, replicate, pos}
use Rattle.hash_family.specs.Hash.{sign}
use Rattle.count_sketch.specs.Row.{item_place}
use Rattle.count_sketch.specs.declared.spots.Spot.{Spot}
use Rattle.count_sketch.specs.declared.spots.Spots.{Spots}

-- a key's counter in a row stands at this place, and the key counts there with this sign
pub record IsSpot (seed level row width : ℕ) (key : List ℕ) (spot : Spot) : Type 0 where
  pub place : spot.place ≡ item_place seed level row width key
  pub sign : spot.sign ≡ sign seed level row key

-- the key's spot in each row of a level
pub record AreSpots (seed level rows width : ℕ) (key : List ℕ) (spots : Spots) : Type 0 where
  pub each : (row : ℕ) (d : Spot) → row < rows → IsSpot seed level row width key (slice_index_or spots.rows row d)

-- spots of no key: each of them the first place, with the sign 1
abbrev pub no_spots : Spots
no_spots = record { rows = replicate 7 (record { place = 0; sign = pos 1 }) }
