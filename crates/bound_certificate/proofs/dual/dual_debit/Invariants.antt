-- The sum so far, and its bound.
use Rattle.std.proofs.Common.{◌≡◌, ◌≤◌, ◌*◌}
use Rattle.bound_certificate.specs.Sums.{sum_below}
use Rattle.bound_certificate.specs.Node.{priced_capacity_by}
use Rattle.bound_certificate.proofs.dual.dual_debit.Given as goal

abbrev pub invariant-loop-site : goal.invariant-loop-site
invariant-loop-site l =
    (l.sum ≡ sum_below (priced_capacity_by l.problem l.mu) l.site) × (l.sum ≤ 309485009821345068724781056 * l.site)
