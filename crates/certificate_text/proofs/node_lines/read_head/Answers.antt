use Rattle.std.proofs.Common.{ℕ, sym, subst}
use Rattle.certificate_text.specs.Parts.{CanStand}
use Rattle.certificate_text.specs.NodeLines.{ReadsNode}
use Rattle.certificate_text.specs.NodeHead.{head_part}
use Rattle.certificate_text.proofs.NodeLines.{none_stops, refused_stops}
use Rattle.certificate_text.proofs.node_lines.read_head.Goals as goal

pub returns-in_default-read-clause-err : goal.returns-in_default-read-clause-err
returns-in_default-read-clause-err c =
    none_stops c.args.depth c.args.cursor.now
    (subst (λ read. ReadsNode c.args.cursor.now c.read_node.new.cursor read) c.in_default-read.is c.in-Ok.ensures)

pub returns-in_default-branches_behind-clause-err :
    goal.returns-in_default-branches_behind-clause-err
returns-in_default-branches_behind-clause-err c =
    let before = c.args.cursor.now in
    let read = subst (λ read. ReadsNode before c.read_node.new.cursor read) c.in-Some.is c.in-Ok.ensures in
    refused_stops c.args.depth before c.read_node.new.cursor c.in-Some.head read
    (λ can. c.in_default-branches_behind.ensures
    (subst (λ (b : ℕ). CanStand c.args.depth b (head_part c.in-Some.head)) (sym read.branches) can))
