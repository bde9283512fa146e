-- Which outcome of a search is right.
use Rattle.std.specs.Prelude.{ℕ, ◌-◌, ◌==◌, ◌&&◌, ◌||◌, nat_le, nat_lt, Bool, true, false, not, List, [], length, Option, None, Some, is_none, is_some, Result, Ok, Err, is_ok, ℤ, pos, int_le, if◌then◌else◌}
use Rattle.std.specs.List.{list_all}
use Rattle.std.specs.Option.{option_map}
use Rattle.std.specs.Ordering.{int_eq}
use Rattle.bound_certificate.specs.Problem.{Problem, need_count}
use Rattle.bound_certificate.specs.Placement.{cost, fits, completed, first_fit}
use Rattle.bound_certificate.specs.Node.{Part, BranchPart, OverPart, HallPart, DualPart, FullPart, is_over, dual_value}
use Rattle.bound_certificate.specs.Tree.{Visit, visits, first_fault, bound_of, branches_of, verdict_of}
use Rattle.bound_certificate.specs.Floor.{floor}
use Rattle.bound_certificate.specs.Formed.{is_formed}
use Rattle.bound_certificate.specs.declared.tree.Tree.{Tree}
use Rattle.bound_certificate.specs.declared.verdict.Verdict.{Verdict}
use Rattle.bound_certificate.specs.declared.verdict.TreeFault.{TreeFault}
use Rattle.bound_certificate.specs.declared.outcome.Outcome.{Outcome}
use Rattle.bound_certificate.specs.declared.outcome.Outcome.TheVariants.{Placed, Infeasible, Spent}
use Rattle.bound_certificate.specs.declared.outcome.OutcomeFault.{OutcomeFault}
use Rattle.bound_certificate.specs.declared.outcome.OutcomeFault.TheVariants.{Tree as TreeIsWrong, Branches, Placement, Bound}

-- a node's completion: its choices, and for each later need, in order, the first site of its via with room
-- left; none where some need finds none, and none where the node is over
unfoldable pub completion : Problem → List ℕ → Option (List ℕ)
completion p cs = if is_over p cs then None else completed p cs (need_count p - length cs)

-- whether a cost is no better than the best one, where None is above each number
abbrev pub is_no_better : Option ℕ → Option ℕ → Bool
is_no_better best None = true
is_no_better None (Some c) = false
is_no_better (Some b) (Some c) = nat_le b c

-- whether a node's completion is no better than the best cost
unfoldable pub is_beaten : Problem → Option ℕ → List ℕ → Bool
is_beaten p best cs = is_no_better best (option_map (cost p) (completion p cs))

-- whether a number is below a ceiling, where there is one
abbrev pub is_under : Option ℕ → ℕ → Bool
is_under None n = true
is_under (Some ceiling) n = nat_lt n ceiling

-- a Dual leaf's value is at least the leaf's floor, and a Branch node's floor is below the ceiling
unfoldable pub is_tight : Problem → Option ℕ → List ℕ → Part → Bool
is_tight p ceiling cs (BranchPart children) = is_under ceiling (floor p cs)
is_tight p ceiling cs OverPart = true
is_tight p ceiling cs (HallPart names) = true
is_tight p ceiling cs (DualPart lambda mu) = int_le (pos (floor p cs)) (dual_value p cs lambda mu)
is_tight p ceiling cs FullPart = true

-- both, of one node and of all nodes
unfoldable pub is_explored : Problem → Option ℕ → Option ℕ → Visit → Bool
is_explored p best ceiling v = is_beaten p best v.choices && is_tight p ceiling v.choices v.part

unfoldable pub are_explored : Problem → Option ℕ → Option ℕ → List Visit → Bool
are_explored p best ceiling vs = list_all (is_explored p best ceiling) vs

-- the cost of first fit's placement, where there is one
unfoldable pub first_fit_cost : Problem → Option ℕ
first_fit_cost p = option_map (cost p) (first_fit p)

-- whether a bound is this cost
abbrev pub is_bound : Option ℤ → ℕ → Bool
is_bound None c = false
is_bound (Some b) c = int_eq b (pos c)

-- a placement of this cost is right: no node's completion is better, each Dual leaf's value is at least its
-- floor, each Branch node's floor is below first fit's cost, and the bound is the cost or all nodes were spent
unfoldable pub is_best : Problem → ℕ → List Visit → ℕ → Bool
is_best p n vs c =
    are_explored p (Some c) (first_fit_cost p) vs && (is_bound (bound_of p vs) c || branches_of vs == n)

-- a spent search is right: no node has a completion, each Dual leaf's value is at least its floor, there is a
-- bound, and all nodes were spent
unfoldable pub is_spent : Problem → ℕ → List Visit → Bool
is_spent p n vs = are_explored p None None vs && (is_some (bound_of p vs) && branches_of vs == n)

-- the tree of an outcome
abbrev pub tree_of : Outcome → Tree
tree_of (Placed placement tree) = tree
tree_of (Infeasible tree) = tree
tree_of (Spent tree) = tree

-- what an outcome with a checked tree of few enough Branch nodes says: its verdict, or what is wrong with it
unfoldable pub judged : Problem → ℕ → List Visit → Outcome → Result Verdict OutcomeFault
judged p n vs (Placed placement tree) =
    if not (fits p placement.sites) then Err Placement
    else if is_best p n vs (cost p placement.sites) then Ok (verdict_of p vs) else Err Bound
judged p n vs (Infeasible tree) = if is_none (bound_of p vs) then Ok (verdict_of p vs) else Err Bound
judged p n vs (Spent tree) = if is_spent p n vs then Ok (verdict_of p vs) else Err Bound

abbrev pub unless_faulty : Option TreeFault → Bool → Result Verdict OutcomeFault → Result Verdict OutcomeFault
unless_faulty (Some fault) many rest = Err (TreeIsWrong fault)
unless_faulty None many rest = if many then Err Branches else rest

-- the judgement of an outcome of a search with n nodes: its tree's verdict where it is right, else the first
-- fault: the tree's, too many Branch nodes, a placement that does not fit, or the bound and what goes with it
unfoldable pub judgement : Problem → ℕ → Outcome → Result Verdict OutcomeFault
judgement p n outcome =
    let vs = visits p (tree_of outcome) [] in
    unless_faulty (first_fault p 0 vs) (nat_lt n (branches_of vs)) (judged p n vs outcome)

-- whether its judgement has no fault
unfoldable pub is_faultless : Problem → ℕ → Outcome → Bool
is_faultless p n outcome = is_ok (judgement p n outcome)

-- whether an outcome is right: its tree is within its limits, and its judgement has no fault
unfoldable pub is_right : Problem → ℕ → Outcome → Bool
is_right p n outcome = is_formed (tree_of outcome) && is_faultless p n outcome
