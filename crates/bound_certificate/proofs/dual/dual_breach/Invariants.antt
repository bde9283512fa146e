-- No site so far is breached.
use Rattle.std.proofs.Common.{◌≡◌, None}
use Rattle.bound_certificate.specs.Sums.{first_below}
use Rattle.bound_certificate.specs.Node.{is_breached}
use Rattle.bound_certificate.proofs.dual.dual_breach.Given as goal

abbrev pub invariant-loop-site : goal.invariant-loop-site
invariant-loop-site l = first_below (is_breached l.problem l.choices l.lambda l.mu) l.site ≡ None
