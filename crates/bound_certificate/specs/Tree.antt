-- A certificate as the list of its nodes in preorder, each with the choices that lead to it.
use Rattle.std.specs.Prelude.{ℕ, ◌+◌, ◌||◌, Bool, true, false, List, [], ◌∷◌, ◌++◌, length, slice_index, Option, None, Some, ℤ, pos, if◌then◌else◌}
use Rattle.std.specs.List.{list_any}
use Rattle.std.specs.Option.{option_map, option_or}
use Rattle.std.specs.Int.{int_min}
use Rattle.bound_certificate.specs.Problem.{Problem, via}
use Rattle.bound_certificate.specs.Placement.{cost}
use Rattle.bound_certificate.specs.Node.{Part, BranchPart, OverPart, HallPart, DualPart, FullPart, node_fault, dual_value}
use Rattle.bound_certificate.specs.declared.tree.Tree.{Tree}
use Rattle.bound_certificate.specs.declared.tree.Tree.TheOpen.{Tree-F}
use Rattle.bound_certificate.specs.declared.tree.Tree.TheFolds.{fold-Tree}
use Rattle.bound_certificate.specs.declared.tree.Tree.TheViews.{out-Tree}
use Rattle.bound_certificate.specs.declared.verdict.TreeFault.{TreeFault}
use Rattle.bound_certificate.specs.declared.verdict.Verdict.{Verdict}

-- one node, and the choices that lead to it
pub record Visit : Type 0 where
  pub choices : List ℕ
  pub part : Part

-- a node without its children, and its children alone
abbrev pub part_step : {X : Type 0} → Tree-F X → Part
part_step (Tree-F.Branch children) = BranchPart (length children)
part_step Tree-F.Over = OverPart
part_step (Tree-F.Hall names) = HallPart names
part_step (Tree-F.Dual lambda mu) = DualPart lambda mu
part_step Tree-F.Full = FullPart

abbrev pub children_step : {X : Type 0} → Tree-F X → List X
children_step (Tree-F.Branch children) = children
children_step Tree-F.Over = []
children_step (Tree-F.Hall names) = []
children_step (Tree-F.Dual lambda mu) = []
children_step Tree-F.Full = []

abbrev pub part_of : Tree → Part
part_of tree = part_step (out-Tree tree)

abbrev pub children_of : Tree → List Tree
children_of tree = children_step (out-Tree tree)

-- the choices that lead to child n: it fixes the next need to the n-th site of its via
unfoldable pub child_choices : Problem → List ℕ → ℕ → List ℕ
child_choices p cs n = cs ++ slice_index (via p (length cs)) n ∷ []

-- the nodes below a node, child by child from number n on
abbrev pub below : Problem → List ℕ → ℕ → List (List ℕ → List Visit) → List Visit
below p cs n [] = []
below p cs n (child ∷ children) = child (child_choices p cs n) ++ below p cs (n + 1) children

abbrev pub visits_step : Problem → Tree-F (List ℕ → List Visit) → List ℕ → List Visit
visits_step p layer cs = record { choices = cs; part = part_step layer } ∷ below p cs 0 (children_step layer)

-- the nodes of a tree in preorder, where these choices lead to it
unfoldable pub visits : Problem → Tree → List ℕ → List Visit
visits p = fold-Tree (List ℕ → List Visit) (visits_step p)

-- the first wrong node, where the first one has number n, with the first reason
unfoldable pub first_fault : Problem → ℕ → List Visit → Option TreeFault
first_fault p n [] = None
first_fault p n (v ∷ vs) =
    option_or (option_map (λ why. record { node = n; why = why }) (node_fault p v.choices v.part))
    (first_fault p (n + 1) vs)

-- the value of a leaf that has one
abbrev pub part_value : Problem → List ℕ → Part → Option ℤ
part_value p cs (BranchPart children) = None
part_value p cs OverPart = None
part_value p cs (HallPart names) = None
part_value p cs (DualPart lambda mu) = Some (dual_value p cs lambda mu)
part_value p cs FullPart = Some (pos (cost p cs))

-- the lesser of two bounds, where None is above each number
abbrev pub lesser : Option ℤ → Option ℤ → Option ℤ
lesser None b = b
lesser (Some x) None = Some x
lesser (Some x) (Some y) = Some (int_min x y)

-- the bound: the least value of a leaf; None where no leaf has one
unfoldable pub bound_of : Problem → List Visit → Option ℤ
bound_of p [] = None
bound_of p (v ∷ vs) = lesser (part_value p v.choices v.part) (bound_of p vs)

abbrev pub is_branch : Part → Bool
is_branch (BranchPart children) = true
is_branch OverPart = false
is_branch (HallPart names) = false
is_branch (DualPart lambda mu) = false
is_branch FullPart = false

abbrev pub is_full : Part → Bool
is_full (BranchPart children) = false
is_full OverPart = false
is_full (HallPart names) = false
is_full (DualPart lambda mu) = false
is_full FullPart = true

-- how many Branch nodes there are
unfoldable pub branches_of : List Visit → ℕ
branches_of [] = 0
branches_of (v ∷ vs) = (if is_branch v.part then 1 else 0) + branches_of vs

-- whether there is a Full leaf
unfoldable pub full_in : List Visit → Bool
full_in vs = list_any (λ v. is_full v.part) vs

unfoldable pub verdict_of : Problem → List Visit → Verdict
verdict_of p vs = record { bound = bound_of p vs; branches = branches_of vs; full = full_in vs }

-- what two parts of a tree say together
unfoldable pub joined : Verdict → Verdict → Verdict
joined a b = record { bound = lesser a.bound b.bound; branches = a.branches + b.branches; full = a.full || b.full }

-- what one node says by itself
unfoldable pub part_verdict : Problem → List ℕ → Part → Verdict
part_verdict p cs part =
    record { bound = part_value p cs part; branches = if is_branch part then 1 else 0; full = is_full part }
