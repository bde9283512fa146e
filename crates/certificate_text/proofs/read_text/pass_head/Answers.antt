use Rattle.certificate_text.proofs.TextEnds.{refuted, passes_other, head_cut}
use Rattle.certificate_text.proofs.read_text.pass_head.Goals as goal

pub loop-line-preserved : goal.loop-line-preserved
loop-line-preserved c =
    passes_other _ c.loop-line.cursor c.next.new.self c.in-Some.line.now c.loop-line.invariant c.in-Some.ensures
    (refuted c.is_text.result c.if-is_text.false c.is_text.ensures)

pub returns-then-is_text-2-clause-err : goal.returns-then-is_text-2-clause-err
returns-then-is_text-2-clause-err c =
    head_cut _ c.next.new.self (rw c.in_default.ensures.1 c.loop-line.invariant)
    (c.is_text-2.ensures.0 c.if-is_text-2.true)
