use Rattle.certificate_text.proofs.NodeLines.{last_is_bad, reads_node}
use Rattle.bound_certificate.proofs.Nodes.{if_ok}
use Rattle.certificate_text.proofs.node_lines.read_node.Goals as goal

pub returns-in-None : goal.returns-in-None
returns-in-None c = last_is_bad c.args.cursor.now.rest.now c.in-None.ensures.0

pub returns-in-Some : goal.returns-in-Some
returns-in-Some c =
    if_ok c.read_line.result
    (λ read reads. reads_node c.args.cursor.now c.next.new.self c.in-Some.line.now read c.in-Some.ensures reads)
    c.read_line.ensures.reads
