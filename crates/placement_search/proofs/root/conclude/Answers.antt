use Rattle.std.proofs.Common.{refl}
use Rattle.placement_search.specs.Shown.{concluded}
use Rattle.placement_search.proofs.root.conclude.Goals as goal

pub returns-in_default : goal.returns-in_default
unfolding concluded
returns-in_default c = record { value = rw c.in_default.is c.unplaced.ensures.value }

pub returns-in-Ok : goal.returns-in-Ok
unfolding concluded
returns-in-Ok c = record { value = rw (c.in-Some.is, c.in-Ok.ensures, c.as_slice.ensures.value) refl }
