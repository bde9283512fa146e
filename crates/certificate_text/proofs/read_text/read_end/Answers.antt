use Rattle.std.proofs.Common.{inl}
use Rattle.certificate_text.proofs.TextEnds.{refuted, no_end}
use Rattle.certificate_text.proofs.read_text.read_end.Goals as goal

pub returns-then-not-is_text-clause-err : goal.returns-then-not-is_text-clause-err
returns-then-not-is_text-clause-err c =
    inl (no_end c.args.cursor.now c.next.new.self c.in-Some.last.now c.in-Some.ensures
    (refuted c.is_text.result c.if-not-is_text.true c.is_text.ensures))
