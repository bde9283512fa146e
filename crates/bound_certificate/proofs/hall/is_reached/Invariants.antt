-- The answer lies with the names that are left.
use Rattle.std.proofs.Common.{◌≡◌, drop}
use Rattle.bound_certificate.specs.Node.{is_reached}
use Rattle.std.specs.List.{list_any}
use Rattle.bound_certificate.specs.Sums.{has}
use Rattle.bound_certificate.specs.Problem.{via}
use Rattle.bound_certificate.proofs.hall.is_reached.Given as goal

abbrev pub invariant-loop-need : goal.invariant-loop-need
invariant-loop-need l =
    list_any (λ i. has (via l.problem i) l.site) (drop l.need-index l.names) ≡ is_reached l.problem l.names l.site
