-- The lines so far are passed; what is left of the text gets shorter.
use Rattle.std.proofs.Common.{length}
use Rattle.certificate_text.specs.TextEnds.{HavePassed}
use Rattle.certificate_text.proofs.read_text.pass_head.Given as goal

abbrev pub invariant-loop-line : goal.invariant-loop-line
invariant-loop-line l = HavePassed l.fn.cursor l.cursor

abbrev pub decreases-loop-line : goal.decreases-loop-line
decreases-loop-line l = length l.cursor.rest.now
