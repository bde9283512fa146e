-- What weighs at each level, of the items that are live there.
use Rattle.std.specs.Prelude.{◌≡◌, ℕ, ◌+◌, ◌<◌, cond, List, length, slice_index}
use Rattle.hash_family.specs.Hash.{is_live}
use Rattle.count_sketch.specs.Counters.{Item}
use Rattle.sketch_levels.specs.Items.{live_items, weight_of}

-- each level where a key is live counts so much more
pub record CountsLive (seed : ℕ) (key : List ℕ) (more : ℕ) (old new : List ℕ) : Type 0 where
  pub size : length new ≡ length old
  pub each : (level : ℕ) → level < length old → slice_index new level ≡ slice_index old level + cond {A = ℕ} (is_live
      seed level key) more 0

-- the weights are those of a list of items
pub record AreWeighed (seed : ℕ) (items : List Item) (weights : List ℕ) : Type 0 where
  pub each : (level : ℕ) → level < length weights → slice_index weights level ≡ weight_of (live_items seed level items)
