-- The nodes of a tree are what falls; the children that are left are right, and answer for all of them.
use Rattle.std.proofs.Common.{◌≡◌, ◌+◌, ◌*◌, drop, map, None}
use Rattle.std.specs.Prelude.{sum}
use Rattle.bound_certificate.specs.Formed.{nodes}
use Rattle.bound_certificate.specs.Tree.{visits, below, first_fault}
use Rattle.bound_certificate.specs.Outcome.{are_explored}
use Rattle.bound_certificate.proofs.judge.+explored.Given as goal

abbrev pub decreases-are_explored : goal.decreases-are_explored
decreases-are_explored l = 2 * nodes l.tree.now

abbrev pub decreases-are_children_explored : goal.decreases-are_children_explored
decreases-are_children_explored l = 2 * sum (map nodes l.children.now) + 1

abbrev pub invariant-are_children_explored-loop-n : goal.invariant-are_children_explored-loop-n
invariant-are_children_explored-loop-n l =
    (first_fault l.problem 0 (below l.problem l.choices l.n (map (visits l.problem) (drop l.n l.children))) ≡ None)
    × (are_explored l.problem l.rule.best l.rule.ceiling
    (below l.problem l.choices l.n (map (visits l.problem) (drop l.n l.children)))
    ≡ are_explored l.problem l.rule.best l.rule.ceiling
    (below l.problem l.choices 0 (map (visits l.problem) l.children)))
