-- None of the places so far has that number.
use Rattle.std.proofs.Common.{ℕ, ◌<◌, ◌≢◌, get_or}
use Rattle.bound_certificate.proofs.within.stands_before.Given as goal

abbrev pub invariant-loop-i : goal.invariant-loop-i
invariant-loop-i l = (i d : ℕ) → i < l.i → get_or l.via i d ≢ get_or l.via l.place d
