-- The best guess so far is a site of the via.
use Rattle.std.proofs.Common.{◌≡◌, true, length}
use Rattle.std.specs.Prelude.{IfSome}
use Rattle.bound_certificate.specs.Problem.{via}
use Rattle.bound_certificate.specs.Sums.{has}
use Rattle.placement_search.proofs.dive.best_guess.Given as goal

abbrev pub invariant-loop-site : goal.invariant-loop-site
invariant-loop-site l = IfSome l.best (λ guess. has (via l.problem (length l.choices)) guess.site ≡ true)
