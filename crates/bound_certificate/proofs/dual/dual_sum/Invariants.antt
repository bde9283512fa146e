-- The sum so far, and its bound.
use Rattle.std.proofs.Common.{◌≡◌, ◌≤◌, ◌*◌}
use Rattle.bound_certificate.specs.Sums.{sum_below}
use Rattle.bound_certificate.specs.Node.{excess}
use Rattle.bound_certificate.proofs.dual.dual_sum.Given as goal

abbrev pub invariant-loop-j : goal.invariant-loop-j
invariant-loop-j l =
    (l.sum ≡ sum_below (excess l.problem l.choices l.lambda l.mu l.site) l.j) × (l.sum ≤ 18446744073709551616 * l.j)
