-- The best placement so far has a site for each need.
use Rattle.std.proofs.Common.{◌≡◌, length}
use Rattle.std.specs.Prelude.{IfSome}
use Rattle.bound_certificate.specs.Problem.{need_count}
use Rattle.placement_search.proofs.walk.walk.Given as goal

abbrev pub invariant-loop-left : goal.invariant-loop-left
invariant-loop-left l = IfSome l.walk.best (λ sites. length sites ≡ need_count l.problem)
