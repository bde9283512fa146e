-- A leaf that closes a node, and a node that is still open.
use Rattle.std.specs.Prelude.{◌≡◌, ◌<◌, ◌≤◌, ℕ, true, false, List, [], length, slice_index, All, None, pos, int_le, ◌^◌, ◌-◌}
use Rattle.bound_certificate.specs.Problem.{Problem, need_count, site_count}
use Rattle.bound_certificate.specs.Node.{is_crowded, is_hall_set, later, node_fault, dual_breach, dual_value}
use Rattle.bound_certificate.specs.Tree.{part_of, children_of, part_value, is_branch}
use Rattle.bound_certificate.specs.Floor.{floor, floor_by}
use Rattle.bound_certificate.specs.Formed.{is_formed_part}
use Rattle.bound_certificate.specs.Prices.{ArePrices}
use Rattle.bound_certificate.specs.Outcome.{is_tight, is_under, first_fit_cost}
use Rattle.bound_certificate.specs.declared.tree.Tree.{Tree}
use Rattle.placement_search.specs.declared.progress.Progress.{Progress}
use Rattle.placement_search.specs.Kept.{reaches}

-- needs from a depth on that are more than the sites of their vias have left
pub record IsCrowd (p : Problem) (cs names : List ℕ) : Type 0 where
  pub set : is_hall_set p (length cs) names ≡ true
  pub crowded : is_crowded p cs names ≡ true
  pub known : All (λ need. need < need_count p) names
  pub few : length names ≤ 64

-- the floor's own dual: each lambda is the least that its need costs, and each mu is 0
pub record IsFloorDual (p : Problem) (cs lambda mu : List ℕ) : Type 0 where
  pub lambdas : length lambda ≡ need_count p - length cs
  pub least : (j : ℕ) → j < length lambda → slice_index lambda j ≡ floor_by p cs j
  pub small : All (λ x. x < 2 ^ 56) lambda
  pub mus : length mu ≡ site_count p
  pub free : (s : ℕ) → slice_index mu s ≡ 0

-- the prices of a dual that is right and whose value is at least the floor
pub record IsDual (p : Problem) (cs lambda mu : List ℕ) : Type 0 where
  pub prices : ArePrices p cs lambda mu
  pub right : dual_breach p cs lambda mu ≡ None
  pub tight : int_le (pos (floor p cs)) (dual_value p cs lambda mu) ≡ true

-- a leaf that is right where these choices lead, and that the best cost reaches where Branch nodes are left
pub record IsLeaf (p : Problem) (cs : List ℕ) (progress : Progress) (tree : Tree) : Type 0 where
  pub alone : children_of tree ≡ []
  pub leaf : is_branch (part_of tree) ≡ false
  pub right : node_fault p cs (part_of tree) ≡ None
  pub tight : is_tight p (first_fit_cost p) cs (part_of tree) ≡ true
  pub formed : is_formed_part (length cs) (part_of tree) ≡ true
  pub closed : 0 < progress.left → reaches progress.cost (part_value p cs (part_of tree)) ≡ true

-- a node that a search may branch
pub record IsOpen (p : Problem) (cs : List ℕ) (progress : Progress) : Type 0 where
  pub above : length cs < need_count p
  pub busy : is_crowded p cs (later p (length cs)) ≡ false
  pub left : 0 < progress.left
  pub under : is_under (first_fit_cost p) (floor p cs) ≡ true
