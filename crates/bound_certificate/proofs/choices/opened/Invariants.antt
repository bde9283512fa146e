-- The sum so far, and its bound.
use Rattle.std.proofs.Common.{◌≡◌, ◌≤◌, ◌*◌}
use Rattle.bound_certificate.specs.Sums.{sum_below}
use Rattle.bound_certificate.specs.Placement.{opened_by}
use Rattle.bound_certificate.proofs.choices.opened.Given as goal

abbrev pub invariant-loop-site : goal.invariant-loop-site
invariant-loop-site l = (l.sum ≡ sum_below (opened_by l.problem l.choices) l.site) × (l.sum ≤ 4294967295 * l.site)
