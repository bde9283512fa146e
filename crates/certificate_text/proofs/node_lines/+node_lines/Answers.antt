-- A tree by its root and its children, and children one by one.
use Rattle.std.proofs.Common.{◌-◌, ◌∙◌, ap, subst, arith}
use Rattle.std.proofs.lemmas.Result.{err_from_is_err_and}
use Rattle.certificate_text.specs.NodeHead.{head_part}
use Rattle.certificate_text.specs.NodeLines.{IsHeadRead}
use Rattle.certificate_text.specs.declared.node_head.NodeHead.{NodeHead}
use Rattle.certificate_text.specs.declared.node_head.NodeHead.TheVariants.{Branch, Over, Hall, Dual, Full}
use Rattle.bound_certificate.specs.declared.tree.Tree.TheVariants.{Branch as TreeBranch, Over as TreeOver, Hall as TreeHall, Dual as TreeDual, Full as TreeFull}
use Rattle.certificate_text.proofs.NodeLines.{rooted, leaf_read, branch_stops, child_stops}
use Rattle.bound_certificate.proofs.Trees.{part_of-Branch, part_of-Over, part_of-Hall, part_of-Dual, part_of-Full, children_of-Branch, children_of-Over, children_of-Hall, children_of-Dual, children_of-Full}
use Rattle.certificate_text.proofs.node_lines.+node_lines.Goals as goal

pub read_tree-returns-in_ok-children-in-Branch-clause-ok :
    goal.read_tree-returns-in_ok-children-in-Branch-clause-ok
read_tree-returns-in_ok-children-in-Branch-clause-ok t c =
    let trees = c.in_ok-children-in-Branch.children in
    let read = subst (λ (head : NodeHead). IsHeadRead c.args.depth c.args.cursor.now c.read_head.new.cursor head)
    c.in-Branch.is c.in_ok-count.ensures.ok in
    rooted c.args.depth c.args.cursor.now c.read_head.new.cursor c.read_trees.new.cursor (Branch c.in-Branch.count)
    (TreeBranch trees) trees
    (part_of-Branch trees ∙ ap (λ n. head_part (Branch n)) c.in_ok-children-in-Branch.ensures.size)
    (children_of-Branch trees) read c.in_ok-children-in-Branch.ensures.ok

pub read_tree-returns-in-Over-clause-ok : goal.read_tree-returns-in-Over-clause-ok
read_tree-returns-in-Over-clause-ok t c =
    leaf_read c.args.depth c.args.cursor.now c.read_head.new.cursor Over TreeOver part_of-Over children_of-Over
    (subst (λ (head : NodeHead). IsHeadRead c.args.depth c.args.cursor.now c.read_head.new.cursor head) c.in-Over.is
    c.in_ok-count.ensures.ok)

pub read_tree-returns-in-Hall-clause-ok : goal.read_tree-returns-in-Hall-clause-ok
read_tree-returns-in-Hall-clause-ok t c =
    let names = c.in-Hall.names in
    leaf_read c.args.depth c.args.cursor.now c.read_head.new.cursor (Hall names) (TreeHall names) (part_of-Hall names)
    (children_of-Hall names)
    (subst (λ (head : NodeHead). IsHeadRead c.args.depth c.args.cursor.now c.read_head.new.cursor head) c.in-Hall.is
    c.in_ok-count.ensures.ok)

pub read_tree-returns-in-Dual-clause-ok : goal.read_tree-returns-in-Dual-clause-ok
read_tree-returns-in-Dual-clause-ok t c =
    let lambda = c.in-Dual.lambda in
    let mu = c.in-Dual.mu in
    leaf_read c.args.depth c.args.cursor.now c.read_head.new.cursor (Dual lambda mu) (TreeDual lambda mu)
    (part_of-Dual lambda mu) (children_of-Dual lambda mu)
    (subst (λ (head : NodeHead). IsHeadRead c.args.depth c.args.cursor.now c.read_head.new.cursor head) c.in-Dual.is
    c.in_ok-count.ensures.ok)

pub read_tree-returns-in-Full-clause-ok : goal.read_tree-returns-in-Full-clause-ok
read_tree-returns-in-Full-clause-ok t c =
    leaf_read c.args.depth c.args.cursor.now c.read_head.new.cursor Full TreeFull part_of-Full children_of-Full
    (subst (λ (head : NodeHead). IsHeadRead c.args.depth c.args.cursor.now c.read_head.new.cursor head) c.in-Full.is
    c.in_ok-count.ensures.ok)

pub read_tree-returns-in_err-children-in-Branch-clause-err :
    goal.read_tree-returns-in_err-children-in-Branch-clause-err
read_tree-returns-in_err-children-in-Branch-clause-err t c =
    let read = subst (λ (head : NodeHead). IsHeadRead c.args.depth c.args.cursor.now c.read_head.new.cursor head)
    c.in-Branch.is c.in_ok-count.ensures.ok in
    let told = err_from_is_err_and c.from_residual-in_err-children-in-Branch.result
    c.from_residual-in_err-children-in-Branch.ensures.1 in
    rw (told.1, told.2)
    (branch_stops c.args.depth c.in-Branch.count c.args.cursor.now c.read_head.new.cursor _ read
    c.in_err-children-in-Branch.ensures.err)

pub read_trees-returns-in_err-tree-clause-err : goal.read_trees-returns-in_err-tree-clause-err
read_trees-returns-in_err-tree-clause-err t c =
    let m = c.args.count - c.loop.counter - 1 in
    let told = err_from_is_err_and c.from_residual.result c.from_residual.ensures.1 in
    rw (told.1, told.2)
    (child_stops c.args.depth c.args.count m c.args.cursor.now c.loop.cursor c.loop.trees _ c.loop.invariant.0
    (omega (arith, c.loop.invariant.1)) c.in_err-tree.ensures.err)
