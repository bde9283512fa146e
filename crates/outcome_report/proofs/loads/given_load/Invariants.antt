-- The sum so far, and its bound.
use Rattle.std.proofs.Common.{◌≡◌, ◌≤◌, ◌*◌}
use Rattle.bound_certificate.specs.Placement.{given_by}
use Rattle.bound_certificate.specs.Sums.{sum_below}
use Rattle.outcome_report.proofs.loads.given_load.Given as goal

abbrev pub invariant-loop-need : goal.invariant-loop-need
invariant-loop-need l =
    (l.sum ≡ sum_below (given_by l.problem l.sites l.switch) l.need) × (l.sum ≤ 65535 * l.need) × (l.need ≤ 64)
