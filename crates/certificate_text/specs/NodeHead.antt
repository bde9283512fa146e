-- A node that was read, before its children are.
use Rattle.std.specs.Prelude.{◌≡◌, ℕ, List, ◌++◌, Option, Some, None, IsTrue, codes}
use Rattle.bound_certificate.specs.Formed.{is_formed_part}
use Rattle.bound_certificate.specs.Node.{Part, BranchPart, OverPart, HallPart, DualPart, FullPart}
use Rattle.certificate_text.specs.Text.{part_line}
use Rattle.certificate_text.specs.declared.node_head.NodeHead.{NodeHead}
use Rattle.certificate_text.specs.declared.node_head.NodeHead.TheVariants.{Branch, Over, Hall, Dual, Full}

abbrev pub head_part : NodeHead → Part
head_part (Branch children) = BranchPart children
head_part Over = OverPart
head_part (Hall names) = HallPart names
head_part (Dual lambda mu) = DualPart lambda mu
head_part Full = FullPart

-- a node within its limits wherever it stands
abbrev pub IsSound : Part → Type 0
IsSound part = IsTrue (is_formed_part 0 part)

-- what a line without its line feed is read as: the node within its limits whose line it is, or None where it is
-- no such node's
abbrev pub ReadsLine : List ℕ → Option NodeHead → Type 0
ReadsLine line (Some head) = IsSound (head_part head) × (part_line (head_part head) ≡ line ++ codes "\n")
ReadsLine line None = (part : Part) → IsSound part → part_line part ≡ line ++ codes "\n" → ⊥
