-- The least key of two ascending lists.
use Rattle.std.specs.Prelude.{◌≡◌, ℕ, ◌+◌, ◌<◌, ◌≤◌, List, ◌∷◌, length, drop}
use Rattle.sketch_merge.specs.Merged.{united}

-- the keys of both lists begin with a key, and go on with those of the lists behind so many of their own first keys
pub record BeginsWith (keys more : List (List ℕ)) (key : List ℕ) (of_keys of_more : ℕ) : Type 0 where
  pub keys_within : of_keys ≤ length keys
  pub more_within : of_more ≤ length more
  pub some : 0 < of_keys + of_more
  pub rest : united keys more ≡ key ∷ united (drop of_keys keys) (drop of_more more)
