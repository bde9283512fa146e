-- The limits of a tree: what its text and its bytes can spell.
use Rattle.std.specs.Prelude.{ℕ, ◌+◌, ◌^◌, ◌&&◌, nat_le, nat_lt, Bool, true, List, length, sum, if◌then◌else◌}
use Rattle.std.specs.List.{list_all}
use Rattle.bound_certificate.specs.Node.{Part, BranchPart, OverPart, HallPart, DualPart, FullPart}
use Rattle.bound_certificate.specs.Tree.{part_step, children_step, is_branch}
use Rattle.bound_certificate.specs.declared.tree.Tree.{Tree}
use Rattle.bound_certificate.specs.declared.tree.Tree.TheOpen.{Tree-F}
use Rattle.bound_certificate.specs.declared.tree.Tree.TheFolds.{fold-Tree}

-- how many Branch nodes a tree has, and how many nodes
abbrev pub branches_step : Tree-F ℕ → ℕ
branches_step layer = (if is_branch (part_step layer) then 1 else 0) + sum (children_step layer)

unfoldable pub branches : Tree → ℕ
branches = fold-Tree ℕ branches_step

abbrev pub nodes_step : Tree-F ℕ → ℕ
nodes_step layer = 1 + sum (children_step layer)

unfoldable pub nodes : Tree → ℕ
nodes = fold-Tree ℕ nodes_step

-- the numbers of a certificate are below 2^56
abbrev pub are_prices : List ℕ → Bool
are_prices xs = list_all (λ x. nat_lt x (2 ^ 56)) xs

-- a node at depth d: a Branch stands at a depth below 64 and has 1 to 8 children; a Hall names up to 64 needs,
-- each below 64; a Dual has up to 64 lambdas and up to 32 mus
abbrev pub is_formed_part : ℕ → Part → Bool
is_formed_part d (BranchPart children) = nat_lt d 64 && nat_le 1 children && nat_le children 8
is_formed_part d OverPart = true
is_formed_part d (HallPart names) = nat_le (length names) 64 && list_all (λ x. nat_lt x 64) names
is_formed_part d (DualPart lambda mu) =
    nat_le (length lambda) 64 && nat_le (length mu) 32 && are_prices lambda && are_prices mu
is_formed_part d FullPart = true

abbrev pub formed_step : Tree-F (ℕ → Bool) → ℕ → Bool
formed_step layer d =
    is_formed_part d (part_step layer) && list_all (λ child. child (d + 1)) (children_step layer)

-- a tree whose root has depth d
unfoldable pub is_formed_at : Tree → ℕ → Bool
is_formed_at = fold-Tree (ℕ → Bool) formed_step

-- a tree within the limits: so formed from the root, with at most 4096 Branch nodes
unfoldable pub is_formed : Tree → Bool
is_formed tree = is_formed_at tree 0 && nat_le (branches tree) 4096
