-- The bytes of a tree: its nodes in preorder, each a kind and its parts.
use Rattle.std.specs.Prelude.{ℕ, List, [], ◌∷◌, ◌++◌, length}
use Rattle.std.specs.List.{concat, flat_map}
use Rattle.std.specs.Int.{w64, to_le_bytes}
use Rattle.bound_certificate.specs.Node.{Part, BranchPart, OverPart, HallPart, DualPart, FullPart}
use Rattle.bound_certificate.specs.Tree.{part_step, children_step}
use Rattle.bound_certificate.specs.declared.tree.Tree.{Tree}
use Rattle.bound_certificate.specs.declared.tree.Tree.TheOpen.{Tree-F}
use Rattle.bound_certificate.specs.declared.tree.Tree.TheFolds.{fold-Tree}

-- numbers of eight bytes each, the low byte first
abbrev pub in_eights : List ℕ → List ℕ
in_eights xs = flat_map (λ x. to_le_bytes w64 x) xs

-- a node without its children: 0 and how many children follow; 1; 2, how many needs, and these; 3, how many
-- lambdas, these, how many mus, and these; 4
abbrev pub part_bytes : Part → List ℕ
part_bytes (BranchPart children) = 0 ∷ children ∷ []
part_bytes OverPart = 1 ∷ []
part_bytes (HallPart names) = 2 ∷ length names ∷ names
part_bytes (DualPart lambda mu) = 3 ∷ length lambda ∷ (in_eights lambda ++ (length mu ∷ in_eights mu))
part_bytes FullPart = 4 ∷ []

abbrev pub bytes_step : Tree-F (List ℕ) → List ℕ
bytes_step layer = part_bytes (part_step layer) ++ concat (children_step layer)

-- a tree's bytes: its root's, then those of its children
unfoldable pub bytes_of : Tree → List ℕ
bytes_of = fold-Tree (List ℕ) bytes_step
