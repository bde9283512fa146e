-- Buffers filled from an input.
use Rattle.std.specs.Prelude.{ℕ, ◌<◌, ◌≤◌, List, length, take, Option}
use Rattle.mon_io.specs.Inputs.{Took, IsOver}

-- the front of a buffer was filled with what was taken, all of it unless the input is over
pub record Filled (old new : Option (List ℕ)) (buf : List ℕ) (count : ℕ) : Type 0 where
  pub within : count ≤ length buf
  pub took : Took old new (take count buf)
  pub over : count < length buf → IsOver new
