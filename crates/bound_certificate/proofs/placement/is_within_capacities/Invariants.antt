-- Each site so far has its loads within its capacity.
use Rattle.std.proofs.Common.{◌≡◌, true}
use Rattle.bound_certificate.specs.Sums.{all_below}
use Rattle.bound_certificate.specs.Placement.{is_within_capacity}
use Rattle.bound_certificate.proofs.placement.is_within_capacities.Given as goal

abbrev pub invariant-loop-site : goal.invariant-loop-site
invariant-loop-site l = all_below (is_within_capacity l.problem l.choices) l.site ≡ true
