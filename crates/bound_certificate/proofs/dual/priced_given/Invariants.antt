-- The sum so far, and its bound.
use Rattle.std.proofs.Common.{◌≡◌, ◌≤◌, ◌*◌}
use Rattle.bound_certificate.specs.Sums.{sum_below}
use Rattle.bound_certificate.specs.Node.{priced_given_by}
use Rattle.bound_certificate.proofs.dual.priced_given.Given as goal

abbrev pub invariant-loop-site : goal.invariant-loop-site
invariant-loop-site l =
    (l.sum ≡ sum_below (priced_given_by l.problem l.choices l.mu) l.site) × (l.sum ≤ 302231454903657293676544 * l.site)
