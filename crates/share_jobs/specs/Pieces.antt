-- The pieces of a replay job, as they are fed to a child.
use Rattle.std.specs.Prelude.{◌≡◌, ℕ, List, [], ◌∷◌, ◌++◌, map}
use Rattle.hash_family.specs.Setting.{Setting}
use Rattle.job_format.specs.Job.{AreFrames, frame_bytes, replay_head}
use Rattle.job_format.specs.declared.item.Item.{Item}

-- the head, each frame of the items, and the closing count
pub record HasPieces (number : ℕ) (setting : Setting) (items : List Item) (pieces : List (List ℕ)) : Type 0 where
  pub frames : List (List Item)
  pub framed : AreFrames frames items
  pub are : pieces ≡ replay_head number setting ∷ (map frame_bytes frames ++ (frame_bytes [] ∷ []))
