-- The nodes of a tree are what falls; the count so far, with the trees that are left, is that of all.
use Rattle.std.proofs.Common.{◌≡◌, ◌≤◌, ◌+◌, ◌*◌, drop, map, min}
use Rattle.std.specs.Prelude.{sum}
use Rattle.bound_certificate.specs.Formed.{nodes, branches}
use Rattle.bound_certificate.proofs.formed.+counted.Given as goal

abbrev pub decreases-branches_up_to : goal.decreases-branches_up_to
decreases-branches_up_to l = 2 * nodes l.tree.now

abbrev pub decreases-all_branches_up_to : goal.decreases-all_branches_up_to
decreases-all_branches_up_to l = 2 * sum (map nodes l.trees.now) + 1

abbrev pub invariant-all_branches_up_to-loop-tree : goal.invariant-all_branches_up_to-loop-tree
invariant-all_branches_up_to-loop-tree l =
    (min (l.count + sum (map branches (drop l.tree-index l.trees))) l.limit ≡ min (sum (map branches l.trees)) l.limit)
    × (l.count ≤ l.limit)
