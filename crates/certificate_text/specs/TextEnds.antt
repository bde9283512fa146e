-- The head line and the end line of a tree's text.
use Rattle.std.specs.Prelude.{◌≡◌, ℕ, ◌+◌, ◌<◌, ◌⊎◌, List, ◌++◌, length, codes}
use Rattle.std.specs.List.{AllByRecursion}
use Rattle.certificate_text.specs.Cursor.{KeepsRoom}
use Rattle.certificate_text.specs.ReadText.{head_line, ended, lines_text, IsOther, HasNoHead}
use Rattle.certificate_text.specs.declared.cursor.Cursor.{Cursor}
use Rattle.certificate_text.specs.declared.fault.CertFault.{CertFault}
use Rattle.certificate_text.specs.declared.fault.CertFault.TheVariants.{TooLong, NoTree, Line, Node, Memory}

-- lines other than the head line are passed
pub record HavePassed (before after : Cursor) : Type 0 where
  pub front : List (List ℕ)
  pub passed : AllByRecursion IsOther front
  pub split : before.rest.now ≡ lines_text front ++ after.rest.now
  pub number : after.number ≡ before.number + length front
  pub branches : after.branches ≡ before.branches
  pub room : KeepsRoom before after

-- such lines and the first head line are passed
pub record IsHeadPassed (before after : Cursor) : Type 0 where
  pub front : List (List ℕ)
  pub passed : AllByRecursion IsOther front
  pub split : before.rest.now ≡ lines_text front ++ (ended head_line ++ after.rest.now)
  pub number : after.number ≡ before.number + length front + 1
  pub branches : after.branches ≡ before.branches
  pub room : KeepsRoom before after

-- behind such lines the text ends with the head line, without its line feed
pub record IsHeadCut (before : Cursor) (number : ℕ) : Type 0 where
  pub front : List (List ℕ)
  pub passed : AllByRecursion IsOther front
  pub split : before.rest.now ≡ lines_text front ++ head_line
  pub place : number ≡ before.number + length front

-- why no head line is passed
abbrev pub IsHeadless : Cursor → CertFault → Type 0
IsHeadless before NoTree = HasNoHead before.rest.now
IsHeadless before (Line number) = IsHeadCut before number
IsHeadless before TooLong = ⊥
IsHeadless before (Node node why) = ⊥
IsHeadless before Memory = ⊥

-- the end line, and what stands behind it
abbrev pub end_line : List ℕ
end_line = codes "end"

pub record IsBehindEnd (before : Cursor) (number : ℕ) : Type 0 where
  pub behind : List ℕ
  pub some : 0 < length behind
  pub split : before.rest.now ≡ ended end_line ++ behind
  pub place : number ≡ before.number + 1

pub record HasNoEnd (before : Cursor) (number : ℕ) : Type 0 where
  pub none : (behind : List ℕ) → before.rest.now ≡ ended end_line ++ behind → ⊥
  pub place : number ≡ before.number

-- why the text is not over behind the end line
abbrev pub IsNotEnded : Cursor → CertFault → Type 0
IsNotEnded before (Line number) = HasNoEnd before number ⊎ IsBehindEnd before number
IsNotEnded before NoTree = ⊥
IsNotEnded before TooLong = ⊥
IsNotEnded before (Node node why) = ⊥
IsNotEnded before Memory = ⊥
