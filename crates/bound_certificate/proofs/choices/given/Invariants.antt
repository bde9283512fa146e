-- The sum so far, and its bound.
use Rattle.std.proofs.Common.{◌≡◌, ◌≤◌, ◌*◌}
use Rattle.bound_certificate.specs.Sums.{sum_below}
use Rattle.bound_certificate.specs.Placement.{given_by}
use Rattle.bound_certificate.proofs.choices.given.Given as goal

abbrev pub invariant-loop-i : goal.invariant-loop-i
invariant-loop-i l = (l.sum ≡ sum_below (given_by l.problem l.choices l.site) l.i) × (l.sum ≤ 65535 * l.i) × (l.i ≤ 64)
