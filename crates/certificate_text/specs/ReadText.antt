-- How a text is read as a tree. What stands before the first line that is exactly the head line is passed over.
use Rattle.std.specs.Prelude.{◌≡◌, ◌≢◌, ◌<◌, ◌≤◌, ◌+◌, ◌⊎◌, ℕ, List, ◌++◌, length, codes, IsTrue, Result, Ok, Err}
use Rattle.std.specs.List.{AllByRecursion, flat_map}
use Rattle.bound_certificate.specs.Formed.{is_formed}
use Rattle.certificate_text.specs.Text.{text_of}
use Rattle.bound_certificate.specs.declared.tree.Tree.{Tree}
use Rattle.certificate_text.specs.declared.fault.CertFault.{CertFault}
use Rattle.certificate_text.specs.declared.fault.CertFault.TheVariants.{TooLong, NoTree, Line, Node, Memory}

-- the most bytes of a text
abbrev pub text_limit : ℕ
text_limit = 67108864

-- the line that a certificate begins with
abbrev pub head_line : List ℕ
head_line = codes "univmon tree 1"

-- one line, without its line feed
abbrev pub IsLine : List ℕ → Type 0
IsLine line = AllByRecursion (λ byte. byte ≢ 10) line

-- lines, each with its line feed
abbrev pub ended : List ℕ → List ℕ
ended line = line ++ codes "\n"

abbrev pub lines_text : List (List ℕ) → List ℕ
lines_text lines = flat_map ended lines

-- a line that is passed over
abbrev pub IsOther : List ℕ → Type 0
IsOther line = IsLine line × (line ≢ head_line)

-- the text of a tree within its limits, behind lines that are passed over
pub record IsTreeText (text : List ℕ) (tree : Tree) : Type 0 where
  pub front : List (List ℕ)
  pub passed : AllByRecursion IsOther front
  pub formed : IsTrue (is_formed tree)
  pub parts : text ≡ lines_text front ++ text_of tree

-- no line is the head line, the last one without a line feed included
pub record HasNoHead (text : List ℕ) : Type 0 where
  pub front : List (List ℕ)
  pub last : List ℕ
  pub passed : AllByRecursion IsOther front
  pub other : IsOther last
  pub parts : text ≡ lines_text front ++ last

-- bytes that the text of a tree within its limits can begin with
abbrev pub BeginsTree : List ℕ → Type 0
BeginsTree bytes = (tree : Tree) × (rest : List ℕ) × IsTrue (is_formed tree) × (text_of tree ≡ bytes ++ rest)

-- from the head line on, so many lines begin the text of a tree. The next line doesn't go on with it: it is
-- another one, it is missing, or it lacks its line feed; where the lines are a whole tree's, something follows them
pub record BreaksAt (text : List ℕ) (number : ℕ) : Type 0 where
  pub front : List (List ℕ)
  pub good : List (List ℕ)
  pub rest : List ℕ
  pub passed : AllByRecursion IsOther front
  pub lines : AllByRecursion IsLine good
  pub headed : (0 < length good) ⊎ (rest ≡ head_line)
  pub begun : BeginsTree (lines_text good)
  pub stuck : (line after : List ℕ) → IsLine line → rest ≡ ended line ++ after
      → BeginsTree (lines_text good ++ ended line) → ⊥
  pub unfinished : (tree : Tree) → IsTrue (is_formed tree) → text_of tree ≡ lines_text good → 0 < length rest
  pub parts : text ≡ lines_text front ++ (lines_text good ++ rest)
  pub place : number ≡ length front + length good + 1

-- what a text is read as; the first fault in this order; want of memory says nothing of it
abbrev pub ReadsText : List ℕ → Result Tree CertFault → Type 0
ReadsText text (Ok tree) = (length text ≤ text_limit) × IsTreeText text tree
ReadsText text (Err TooLong) = text_limit < length text
ReadsText text (Err NoTree) = (length text ≤ text_limit) × HasNoHead text
ReadsText text (Err (Line number)) = (length text ≤ text_limit) × BreaksAt text number
ReadsText text (Err (Node node why)) = ⊥
ReadsText text (Err Memory) = ⊥
