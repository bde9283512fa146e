-- The sum so far, and its bound.
use Rattle.std.proofs.Common.{◌≡◌, ◌≤◌, ◌*◌}
use Rattle.bound_certificate.specs.Sums.{sum_below}
use Rattle.bound_certificate.specs.Node.{reached_capacity_by}
use Rattle.bound_certificate.proofs.hall.reached_capacity.Given as goal

abbrev pub invariant-loop-site : goal.invariant-loop-site
invariant-loop-site l =
    (l.sum ≡ sum_below (reached_capacity_by l.problem l.names) l.site) × (l.sum ≤ 4294967295 * l.site)
