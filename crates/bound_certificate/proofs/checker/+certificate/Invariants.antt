-- The nodes of a tree are what falls, and a node's children count less than the node.
use Rattle.std.proofs.Common.{◌+◌, ◌*◌, drop, map}
use Rattle.std.specs.Prelude.{sum}
use Rattle.bound_certificate.specs.Formed.{nodes}
use Rattle.bound_certificate.proofs.Reached.{Reached}
use Rattle.bound_certificate.proofs.checker.+certificate.Given as goal

abbrev pub decreases-check_at : goal.decreases-check_at
decreases-check_at l = 2 * nodes l.tree.now

abbrev pub decreases-check_children : goal.decreases-check_children
decreases-check_children l = 2 * sum (map nodes l.children.now) + 1

abbrev pub invariant-check_children-loop-n : goal.invariant-check_children-loop-n
invariant-check_children-loop-n l =
    Reached l.problem l.number l.choices l.children l.fn.own l.tally l.n (drop l.n l.children)
