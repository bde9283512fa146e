-- The numbers so far are known.
use Rattle.std.proofs.Common.{ℕ, ◌<◌, get_or}
use Rattle.bound_certificate.proofs.within.are_known.Given as goal

abbrev pub invariant-loop-site : goal.invariant-loop-site
invariant-loop-site l = (k d : ℕ) → k < l.site-index → get_or l.via k d < l.sites
