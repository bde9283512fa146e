-- A text that is read line by line.
use Rattle.std.specs.Prelude.{◌≡◌, ℕ, ◌+◌, ◌≤◌, List, ◌++◌, length}
use Rattle.certificate_text.specs.ReadText.{IsLine, ended}
use Rattle.certificate_text.specs.declared.cursor.Cursor.{Cursor}

-- the number of the next line and the bytes that are left come to no more than before
abbrev pub KeepsRoom : Cursor → Cursor → Type 0
KeepsRoom before after = after.number + length after.rest.now ≤ before.number + length before.rest.now

-- this line is passed
pub record HasPassed (before after : Cursor) (line : List ℕ) : Type 0 where
  pub whole : IsLine line
  pub split : before.rest.now ≡ ended line ++ after.rest.now
  pub number : after.number ≡ before.number + 1
  pub branches : after.branches ≡ before.branches
  pub room : KeepsRoom before after
