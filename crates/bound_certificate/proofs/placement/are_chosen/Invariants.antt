-- Each need so far has a site of its via.
use Rattle.std.proofs.Common.{◌≡◌, true}
use Rattle.bound_certificate.specs.Sums.{all_below}
use Rattle.bound_certificate.specs.Placement.{is_chosen}
use Rattle.bound_certificate.proofs.placement.are_chosen.Given as goal

abbrev pub invariant-loop-i : goal.invariant-loop-i
invariant-loop-i l = all_below (is_chosen l.problem l.choices) l.i ≡ true
