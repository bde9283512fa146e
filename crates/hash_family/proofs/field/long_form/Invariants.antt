use Rattle.hash_family.proofs.Forms.{SumUpTo}
use Rattle.hash_family.proofs.field.long_form.Given as goal

abbrev pub invariant-loop-i : goal.invariant-loop-i
invariant-loop-i l = SumUpTo l.row l.words l.i l.sum
