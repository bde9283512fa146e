-- The sum so far, and its bound.
use Rattle.std.proofs.Common.{◌≡◌, ◌≤◌, ◌*◌}
use Rattle.bound_certificate.specs.Sums.{sum_below}
use Rattle.bound_certificate.specs.Node.{reached_given_by}
use Rattle.bound_certificate.proofs.hall.reached_given.Given as goal

abbrev pub invariant-loop-site : goal.invariant-loop-site
invariant-loop-site l =
    (l.sum ≡ sum_below (reached_given_by l.problem l.choices l.names) l.site) × (l.sum ≤ 4194240 * l.site)
