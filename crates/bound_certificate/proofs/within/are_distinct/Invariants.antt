-- The numbers so far differ from each one before them.
use Rattle.std.proofs.Common.{ℕ, ◌<◌, ◌≢◌, get_or}
use Rattle.bound_certificate.proofs.within.are_distinct.Given as goal

abbrev pub invariant-loop-i : goal.invariant-loop-i
invariant-loop-i l = (j k d : ℕ) → j < k → k < l.i → get_or l.via j d ≢ get_or l.via k d
