-- A field that is taken from the front of bytes, and why there is none.
use Rattle.std.specs.Prelude.{◌≡◌, ◌<◌, ◌⊎◌, ◌==◌, ◌||◌, ℕ, Bool, true, false, List, ◌++◌, length, slice_index}
use Rattle.reply_format.specs.declared.fault.ReplyFault.{ReplyFault}
use Rattle.reply_format.specs.declared.fault.ReplyFault.TheVariants.{Short}

-- the field at the front, which is of this size, and which passes the test or doesn't
pub record HasField (size : ℕ) (test : List ℕ → Bool) (passes : Bool) (bytes field after : List ℕ) : Type 0 where
  pub parts : bytes ≡ field ++ after
  pub whole : length field ≡ size
  pub tested : test field ≡ passes

abbrev pub Takes : ℕ → (List ℕ → Bool) → List ℕ → List ℕ → List ℕ → Type 0
Takes size test bytes field after = HasField size test true bytes field after

-- too few bytes are left, or the field is wrong
abbrev pub Lacks : ℕ → (List ℕ → Bool) → ReplyFault → List ℕ → ReplyFault → Type 0
Lacks size test wrong bytes fault =
    ((fault ≡ Short) × (length bytes < size))
    ⊎ ((fault ≡ wrong) × ((field : List ℕ) × ((after : List ℕ) × HasField size test false bytes field after)))

-- version 1 or 2
abbrev pub is_version : List ℕ → Bool
is_version b = slice_index b 0 == 1 || slice_index b 0 == 2
