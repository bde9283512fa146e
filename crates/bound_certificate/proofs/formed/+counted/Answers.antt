use Rattle.std.proofs.Common.{◌≡◌, ◌≤◌, min, map, arith}
use Rattle.std.specs.Prelude.{sum}
use Rattle.bound_certificate.specs.Tree.{children_of}
use Rattle.bound_certificate.specs.Formed.{nodes, branches}
use Rattle.bound_certificate.proofs.Trees.{nodes-out, branches-out}
use Rattle.bound_certificate.proofs.Nodes.{nodes_at}
use Rattle.bound_certificate.proofs.formed.+counted.Goals as goal

pub all_branches_up_to-branches_up_to-requires : goal.all_branches_up_to-branches_up_to-requires
all_branches_up_to-branches_up_to-requires t c =
    let part : nodes c.tree-item.result ≤ sum (map nodes c.args.trees.now) =
    rw c.tree-item.is (nodes_at c.args.trees.now c.loop-tree.tree-index c.tree-item.result c.loop-tree-test.true) in
    (omega (arith, c.decreases, part), c.requires)

pub branches_up_to-all_branches_up_to-requires : goal.branches_up_to-all_branches_up_to-requires
branches_up_to-all_branches_up_to-requires t c =
    rw c.children.ensures.value (omega (arith, c.decreases, nodes-out c.args.tree.now), c.requires)

pub branches_up_to-returns : goal.branches_up_to-returns
branches_up_to-returns t c =
    let all : c.all_branches_up_to.result ≡ min (sum (map branches (children_of c.args.tree.now))) c.args.limit =
    rw c.children.ensures.value at c.all_branches_up_to.ensures in
    omega (arith, all, branches-out c.args.tree.now, c.own_branches.ensures.value)
