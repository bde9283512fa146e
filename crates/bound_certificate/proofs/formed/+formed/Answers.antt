use Rattle.std.proofs.Common.{◌≡◌, ◌≤◌, ◌+◌, true, false, map, sym, ◌∙◌, arith}
use Rattle.std.specs.Prelude.{sum}
use Rattle.std.specs.List.{list_all}
use Rattle.bound_certificate.specs.Tree.{part_of, children_of}
use Rattle.bound_certificate.specs.Formed.{nodes, is_formed_part, is_formed_at}
use Rattle.bound_certificate.proofs.Trees.{nodes-out, is_formed_at-out, fan-part_of}
use Rattle.bound_certificate.proofs.Nodes.{nodes_at}
use Rattle.bound_certificate.proofs.Counted.{fan_depth}
use Rattle.bound_certificate.proofs.Exploring.{false_and, true_and}
use Rattle.bound_certificate.proofs.formed.+formed.Goals as goal

pub are_formed_at-is_formed_at-requires : goal.are_formed_at-is_formed_at-requires
are_formed_at-is_formed_at-requires t c =
    let part : nodes c.tree-item.result ≤ sum (map nodes c.args.trees.now) =
    rw c.tree-item.is (nodes_at c.args.trees.now c.loop-tree.tree-index c.tree-item.result c.loop-tree-test.true) in
    (omega (arith, c.decreases, part), c.requires (omega arith))

pub is_formed_at-are_formed_at-requires : goal.is_formed_at-are_formed_at-requires
is_formed_at-are_formed_at-requires t c =
    let formed : is_formed_part c.args.depth (part_of c.args.tree.now) ≡ true =
    sym c.is_formed_part.ensures ∙ c.if-is_formed_part.true in
    rw c.children.ensures.value (
      omega (arith, c.decreases, nodes-out c.args.tree.now),
      λ some. fan_depth c.args.depth (part_of c.args.tree.now) formed (omega (arith, fan-part_of c.args.tree.now)),
    )

pub is_formed_at-returns-then-is_formed_part : goal.is_formed_at-returns-then-is_formed_part
is_formed_at-returns-then-is_formed_part t c =
    let tree = c.args.tree.now in
    let d = c.args.depth in
    let own = is_formed_part d (part_of tree) in
    let others = list_all (λ child. child (d + 1)) (map is_formed_at (children_of tree)) in
    let formed : own ≡ true = sym c.is_formed_part.ensures ∙ c.if-is_formed_part.true in
    let whole : is_formed_at tree d ≡ others = is_formed_at-out tree d ∙ true_and own others formed in
    let rest : c.are_formed_at.result ≡ others = rw c.children.ensures.value at c.are_formed_at.ensures in
    rest ∙ sym whole

pub is_formed_at-returns-else-is_formed_part : goal.is_formed_at-returns-else-is_formed_part
is_formed_at-returns-else-is_formed_part t c =
    let tree = c.args.tree.now in
    let d = c.args.depth in
    let own = is_formed_part d (part_of tree) in
    let others = list_all (λ child. child (d + 1)) (map is_formed_at (children_of tree)) in
    let broken : own ≡ false = sym c.is_formed_part.ensures ∙ c.if-is_formed_part.false in
    let whole : is_formed_at tree d ≡ false = is_formed_at-out tree d ∙ false_and own others broken in
    c.if-is_formed_part.false ∙ sym whole
