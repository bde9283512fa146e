-- What a search has done with a part of a tree, node by node.
use Rattle.std.specs.Prelude.{◌≡◌, ◌+◌, ◌<◌, ℕ, true, List, length, None, map}
use Rattle.std.specs.List.{list_all}
use Rattle.bound_certificate.specs.Problem.{Problem}
use Rattle.bound_certificate.specs.Tree.{Visit, visits, below, first_fault, bound_of, branches_of}
use Rattle.bound_certificate.specs.Formed.{is_formed_at}
use Rattle.bound_certificate.specs.Outcome.{are_explored, first_fit_cost}
use Rattle.bound_certificate.specs.declared.tree.Tree.{Tree}
use Rattle.placement_search.specs.declared.progress.Progress.{Progress}
use Rattle.placement_search.specs.Kept.{IsKept, IsNoWorse, reaches}

-- none of these nodes is wrong, all are explored under the best cost after, each Branch node was spent, and where
-- some are left, the best cost reaches the bound
pub record IsSearched (p : Problem) (before after : Progress) (vs : List Visit) : Type 0 where
  pub faultless : first_fault p 0 vs ≡ None
  pub explored : are_explored p after.cost (first_fit_cost p) vs ≡ true
  pub spent : branches_of vs + after.left ≡ before.left
  pub no_worse : IsNoWorse before after
  pub closed : 0 < after.left → reaches after.cost (bound_of p vs) ≡ true
  pub kept : IsKept p after

-- so of a tree that these choices lead to, which is within its limits
pub record IsTreeSearched (p : Problem) (cs : List ℕ) (before after : Progress) (tree : Tree) : Type 0 where
  pub nodes : IsSearched p before after (visits p tree cs)
  pub formed : is_formed_at tree (length cs) ≡ true

-- and of the first children of a node
pub record AreSearched (p : Problem) (cs : List ℕ) (before after : Progress) (ts : List Tree) : Type 0 where
  pub nodes : IsSearched p before after (below p cs 0 (map (visits p) ts))
  pub formed : list_all (λ child. child (length cs + 1)) (map is_formed_at ts) ≡ true
