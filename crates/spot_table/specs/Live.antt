-- The levels at which a key is live.
use Rattle.std.specs.Prelude.{◌≡◌, ◌<◌, ◌≤◌, ℕ, true, false, List}
use Rattle.hash_family.specs.Hash.{is_live}

-- of the levels up to the highest, a key is live at the first so many, and at no other
pub record IsLiveAt (seed top : ℕ) (key : List ℕ) (number : ℕ) : Type 0 where
  pub live : (level : ℕ) → level < number → is_live seed level key ≡ true
  pub dead : (level : ℕ) → number ≤ level → level ≤ top → is_live seed level key ≡ false
