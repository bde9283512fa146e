-- A choice for each need so far.
use Rattle.std.proofs.Common.{◌≡◌, length}
use Rattle.bound_certificate.specs.Placement.{AreChoices}
use Rattle.placement_search.proofs.dive.dive.Given as goal

abbrev pub invariant-loop : goal.invariant-loop
invariant-loop l = (length l.choices ≡ l.counter) × AreChoices l.problem l.choices
