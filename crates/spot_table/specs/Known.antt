-- What is known of a key.
use Rattle.std.specs.Prelude.{ℕ, ◌<◌, List, slice_index_or}
use Rattle.hash_family.specs.Setting.{Setting}
use Rattle.count_sketch.specs.Spots.{AreSpots}
use Rattle.count_sketch.specs.declared.spots.Spots.{Spots}
use Rattle.spot_table.specs.declared.known.Known.{Known}
use Rattle.spot_table.specs.Live.{IsLiveAt}

-- at how many levels the key is said to be live
abbrev pub live_levels : Known → ℕ
live_levels known = known.live

-- at the lowest four of the levels where it is live, these are the key's spots
pub record HasSpots (seed rows width : ℕ) (key : List ℕ) (live : ℕ) (levels : List Spots) : Type 0 where
  pub each : (level : ℕ) (d : Spots) → level < live → level < 4
      → AreSpots seed level rows width key (slice_index_or levels level d)

-- what is said of the key is so: at how many levels it is live, and its spots at the lowest of them
pub record IsKnown (setting : Setting) (key : List ℕ) (known : Known) : Type 0 where
  pub live : IsLiveAt setting.seed setting.levels key known.live
  pub spots : HasSpots setting.seed setting.rows setting.width key known.live known.levels
