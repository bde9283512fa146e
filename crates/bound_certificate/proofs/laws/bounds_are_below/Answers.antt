use Rattle.std.proofs.Common.{subst}
use Rattle.bound_certificate.specs.Bound.{IsBelow}
use Rattle.bound_certificate.specs.Placement.{cost}
use Rattle.bound_certificate.proofs.WeakDuality.{weak_duality}
use Rattle.bound_certificate.proofs.laws.bounds_are_below.Goals as goal

pub returns-clause-below : goal.returns-clause-below
returns-clause-below c = λ p tree placement within none fit. weak_duality p tree placement within none fit

pub returns-clause-none : goal.returns-clause-none
returns-clause-none c = λ p tree within none no_bound placement fit.
    subst (λ bound. IsBelow bound (cost p placement)) no_bound (weak_duality p tree placement within none fit)
