use Rattle.recursive_sum.proofs.Descent.{IsSumAt}
use Rattle.recursive_sum.proofs.sum.g_sum.Given as goal

abbrev pub invariant-loop-above : goal.invariant-loop-above
invariant-loop-above l = IsSumAt l.family l.g l.merged l.highest l.above l.sum
