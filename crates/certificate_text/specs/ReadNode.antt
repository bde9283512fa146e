-- How bytes are read as a node without its children: its kind byte, and then its body.
use Rattle.std.specs.Prelude.{◌≡◌, ◌<◌, ◌≤◌, ◌^◌, ◌&&◌, ℕ, nat_lt, List, [], ◌∷◌, ◌++◌, length, IsTrue, if◌then◌else◌}
use Rattle.std.specs.List.{AllByRecursion, list_all}
use Rattle.certificate_text.specs.Bytes.{in_eights, part_bytes}
use Rattle.bound_certificate.specs.Formed.{is_formed_part}
use Rattle.bound_certificate.specs.Node.{Part, BranchPart, OverPart, HallPart, DualPart, FullPart}
use Rattle.certificate_text.specs.NodeHead.{head_part, IsSound}
use Rattle.bound_certificate.specs.Tree.{is_branch}
use Rattle.certificate_text.specs.declared.node_head.NodeHead.{NodeHead}

-- the kind byte, and the bytes behind it
abbrev pub kind_of : Part → ℕ
kind_of (BranchPart children) = 0
kind_of OverPart = 1
kind_of (HallPart names) = 2
kind_of (DualPart lambda mu) = 3
kind_of FullPart = 4

abbrev pub body_of : Part → List ℕ
body_of (BranchPart children) = children ∷ []
body_of OverPart = []
body_of (HallPart names) = length names ∷ names
body_of (DualPart lambda mu) = length lambda ∷ (in_eights lambda ++ (length mu ∷ in_eights mu))
body_of FullPart = []

-- a node's, without its children
abbrev pub head_bytes : NodeHead → List ℕ
head_bytes head = part_bytes (head_part head)

abbrev pub head_body : NodeHead → List ℕ
head_body head = body_of (head_part head)

-- how many Branch nodes one node is
abbrev pub own_branches : Part → ℕ
own_branches part = if is_branch part then 1 else 0

-- what may stand at depth d where b Branch nodes are left
pub record FitsAt (d b : ℕ) (head : NodeHead) : Type 0 where
  pub formed : IsTrue (is_formed_part d (head_part head))
  pub few : own_branches (head_part head) ≤ b

-- the least kind that may: a Branch stands at a depth below 64, and only where one is left
abbrev pub least_kind : ℕ → ℕ → ℕ
least_kind d b = if nat_lt d 64 && nat_lt 0 b then 0 else 1

-- a node of one kind that is within its limits wherever it stands
pub record HasKind (kind : ℕ) (head : NodeHead) : Type 0 where
  pub kind_is : kind_of (head_part head) ≡ kind
  pub sound : IsSound (head_part head)

-- one byte
abbrev pub one_byte : ℕ → List ℕ
one_byte x = x ∷ []

-- so many needs, each below 64
pub record AreNames (count : ℕ) (names : List ℕ) : Type 0 where
  pub size : length names ≡ count
  pub each : IsTrue (list_all (λ x. nat_lt x 64) names)

-- up to so many numbers below 2^56, as they stand behind their count
abbrev pub IsPrice : ℕ → Type 0
IsPrice x = x < 2 ^ 56

pub record ArePriced (limit : ℕ) (numbers : List ℕ) : Type 0 where
  pub few : length numbers ≤ limit
  pub each : AllByRecursion IsPrice numbers

abbrev pub counted_eights : List ℕ → List ℕ
counted_eights numbers = length numbers ∷ in_eights numbers

-- which no budget limits
abbrev pub no_cost : ℕ → ℕ
no_cost x = 0
