-- The room of a via while it is read.
use Rattle.std.specs.Prelude.{◌+◌, ◌&&◌, nat_le, Bool, true, length}
use Rattle.job_format.specs.declared.place.Place.{Place}
use Rattle.job_format.specs.declared.place.Place.TheVariants.{Head, Count, Key, Weight, ReplayEnd, Solve, SolveEnd}
use Rattle.job_format.specs.declared.place.SolveNumbers.{SolveNumbers}
use Rattle.job_format.specs.declared.place.SolveStep.{SolveStep}
use Rattle.job_format.specs.declared.place.SolveStep.TheVariants as solves

-- a number at least is left, and eight stand in the end at most
abbrev pub via_room : SolveNumbers → Bool
via_room n = nat_le (length n.via + n.hops_left) 8 && nat_le 1 n.hops_left

abbrev pub step_room : SolveStep → SolveNumbers → Bool
step_room solves.Nodes n = true
step_room solves.Sites n = true
step_room solves.Site n = true
step_room solves.Needs n = true
step_room solves.Load n = true
step_room solves.Hops n = true
step_room solves.Hop n = via_room n

-- a via that is begun never gets more than eight numbers
abbrev pub has_room : Place → Bool
has_room (Head step h) = true
has_room (Count h tally) = true
has_room (Key h tally left) = true
has_room (Weight h tally left key) = true
has_room (ReplayEnd h tally) = true
has_room (Solve step n) = step_room step n
has_room (SolveEnd n) = true
