use Rattle.std.proofs.Common.{◌≤◌, map, arith}
use Rattle.std.specs.Prelude.{sum, string_bytes}
use Rattle.bound_certificate.specs.Tree.{part_of, children_of}
use Rattle.bound_certificate.specs.Formed.{nodes}
use Rattle.bound_certificate.proofs.Trees.{nodes-out}
use Rattle.certificate_text.proofs.RootFirst.{lines_of-out}
use Rattle.certificate_text.specs.Text.{part_line, lines_of}
use Rattle.std.specs.List.{concat}
use Rattle.certificate_text.proofs.Written.{written, on_ok}
use Rattle.bound_certificate.proofs.Nodes.{nodes_at}
use Rattle.certificate_text.proofs.text.+text.Goals as goal

pub put_tree-put_trees-requires : goal.put_tree-put_trees-requires
put_tree-put_trees-requires t c = rw c.children.ensures.value (omega (arith, c.decreases, nodes-out c.args.tree.now))

pub put_tree-returns : goal.put_tree-returns
put_tree-returns t c =
    let tree = c.args.tree.now in
    on_ok c.put_trees.result
    (λ rest. written (string_bytes c.put_trees.new.text) (string_bytes c.put_line.new.text)
    (string_bytes c.args.text.now) (part_line (part_of tree)) (concat (map lines_of (children_of tree))) (lines_of tree)
    c.in_ok-put_line.ensures (lines_of-out tree) rest)
    (rw c.children.ensures.value at c.put_trees.ensures)

pub put_trees-put_tree-requires : goal.put_trees-put_tree-requires
put_trees-put_tree-requires t c =
    let part : nodes c.tree-item.result ≤ sum (map nodes c.args.trees.now) =
    rw c.tree-item.is (nodes_at c.args.trees.now c.loop-tree.tree-index c.tree-item.result c.loop-tree-test.true) in
    omega (arith, c.decreases, part)
