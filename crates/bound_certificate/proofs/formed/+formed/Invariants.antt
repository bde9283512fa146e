-- The nodes of a tree are what falls; the trees so far are formed.
use Rattle.std.proofs.Common.{◌≡◌, ◌+◌, ◌*◌, drop, map}
use Rattle.std.specs.Prelude.{sum}
use Rattle.std.specs.List.{list_all}
use Rattle.bound_certificate.specs.Formed.{nodes, is_formed_at}
use Rattle.bound_certificate.proofs.formed.+formed.Given as goal

abbrev pub decreases-is_formed_at : goal.decreases-is_formed_at
decreases-is_formed_at l = 2 * nodes l.tree.now

abbrev pub decreases-are_formed_at : goal.decreases-are_formed_at
decreases-are_formed_at l = 2 * sum (map nodes l.trees.now) + 1

abbrev pub invariant-are_formed_at-loop-tree : goal.invariant-are_formed_at-loop-tree
invariant-are_formed_at-loop-tree l =
    list_all (λ child. child l.depth) (map is_formed_at (drop l.tree-index l.trees)) ≡ list_all
    (λ child. child l.depth) (map is_formed_at l.trees)
