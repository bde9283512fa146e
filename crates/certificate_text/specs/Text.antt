-- The text of a tree: a head line, a line for each node in preorder, and an end line.
use Rattle.std.specs.Prelude.{ℕ, List, ◌++◌, length, codes}
use Rattle.std.specs.List.{concat, flat_map}
use Rattle.std.specs.Fmt.{decimal}
use Rattle.bound_certificate.specs.Node.{Part, BranchPart, OverPart, HallPart, DualPart, FullPart}
use Rattle.bound_certificate.specs.Tree.{part_step, children_step}
use Rattle.bound_certificate.specs.declared.tree.Tree.{Tree}
use Rattle.bound_certificate.specs.declared.tree.Tree.TheOpen.{Tree-F}
use Rattle.bound_certificate.specs.declared.tree.Tree.TheFolds.{fold-Tree}

-- a number behind a space
abbrev pub spaced : ℕ → List ℕ
spaced x = codes " " ++ decimal x

-- how many numbers there are, and each of them behind a space
abbrev pub counted : List ℕ → List ℕ
counted xs = decimal (length xs) ++ flat_map spaced xs

-- the line of a node
abbrev pub part_line : Part → List ℕ
part_line (BranchPart children) = codes "branch " ++ (decimal children ++ codes "\n")
part_line OverPart = codes "over\n"
part_line (HallPart names) = codes "hall " ++ (counted names ++ codes "\n")
part_line (DualPart lambda mu) = codes "dual " ++ (counted lambda ++ (codes " " ++ (counted mu ++ codes "\n")))
part_line FullPart = codes "full\n"

abbrev pub lines_step : Tree-F (List ℕ) → List ℕ
lines_step layer = part_line (part_step layer) ++ concat (children_step layer)

-- the lines of a tree: its root's, then those of its children
unfoldable pub lines_of : Tree → List ℕ
lines_of = fold-Tree (List ℕ) lines_step

-- the whole text
unfoldable pub text_of : Tree → List ℕ
text_of tree = codes "univmon tree 1\n" ++ (lines_of tree ++ codes "end\n")
