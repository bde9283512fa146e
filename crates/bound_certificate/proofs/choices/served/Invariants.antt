-- The sum so far, and its bound.
use Rattle.std.proofs.Common.{◌≡◌, ◌≤◌, ◌*◌}
use Rattle.bound_certificate.specs.Sums.{sum_below}
use Rattle.bound_certificate.specs.Placement.{served_by}
use Rattle.bound_certificate.proofs.choices.served.Given as goal

abbrev pub invariant-loop-i : goal.invariant-loop-i
invariant-loop-i l = (l.sum ≡ sum_below (served_by l.problem l.choices) l.i) × (l.sum ≤ 4294836225 * l.i)
