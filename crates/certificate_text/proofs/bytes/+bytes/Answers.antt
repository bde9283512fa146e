use Rattle.std.proofs.Common.{◌≤◌, map, arith}
use Rattle.std.specs.Prelude.{sum}
use Rattle.bound_certificate.specs.Formed.{nodes}
use Rattle.bound_certificate.specs.Tree.{part_of, children_of}
use Rattle.bound_certificate.proofs.Trees.{nodes-out, is_formed_at-parts, fan-part_of}
use Rattle.certificate_text.proofs.RootFirst.{bytes_of-out}
use Rattle.bound_certificate.proofs.Counted.{fan_depth}
use Rattle.certificate_text.specs.Bytes.{part_bytes, bytes_of}
use Rattle.std.specs.List.{concat}
use Rattle.certificate_text.proofs.Written.{written, on_ok}
use Rattle.bound_certificate.proofs.Nodes.{nodes_at, formed_child}
use Rattle.certificate_text.proofs.bytes.+bytes.Goals as goal

pub put_tree-put_part-requires : goal.put_tree-put_part-requires
put_tree-put_part-requires t c = (is_formed_at-parts c.args.tree.now c.args.depth c.requires.formed).0

pub put_tree-put_trees-requires : goal.put_tree-put_trees-requires
put_tree-put_trees-requires t c =
    let parts = is_formed_at-parts c.args.tree.now c.args.depth c.requires.formed in
    rw c.children.ensures.value (
      omega (arith, c.decreases, nodes-out c.args.tree.now),
      (
        parts.1,
        λ some. fan_depth c.args.depth (part_of c.args.tree.now) parts.0 (omega (arith, fan-part_of c.args.tree.now)),
      ),
    )

pub put_tree-returns : goal.put_tree-returns
put_tree-returns t c =
    let tree = c.args.tree.now in
    on_ok c.put_trees.result
    (λ rest. written c.put_trees.new.out.items c.put_part.new.out.items c.args.out.now.items
    (part_bytes (part_of tree)) (concat (map bytes_of (children_of tree))) (bytes_of tree)
    c.in_ok-put_part.ensures (bytes_of-out tree) rest)
    (rw c.children.ensures.value at c.put_trees.ensures)

pub put_trees-put_tree-requires : goal.put_trees-put_tree-requires
put_trees-put_tree-requires t c =
    let part : nodes c.tree-item.result ≤ sum (map nodes c.args.trees.now) =
    rw c.tree-item.is (nodes_at c.args.trees.now c.loop-tree.tree-index c.tree-item.result c.loop-tree-test.true) in (
      omega (arith, c.decreases, part),
      (
        rw c.tree-item.is (formed_child c.args.trees.now c.loop-tree.tree-index c.args.depth c.tree-item.result
            c.requires.formed c.loop-tree-test.true),
        c.requires.depth (omega arith),
      ),
    )
