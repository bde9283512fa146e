-- How reading a job from an input ends.
use Rattle.std.specs.Prelude.{ℕ, List, Option, Result, Ok, Err}
use Rattle.mon_io.specs.Faults.{Rose}
use Rattle.mon_io.specs.Inputs.{InputState, IsOver, IsRestOf, Took}
use Rattle.child_worker.specs.Child.{IsMisspelled, IsReplied}
use Rattle.child_worker.specs.Work.{HasWorked}
use Rattle.child_worker.specs.declared.status.ChildStatus.{ChildStatus}
use Rattle.child_worker.specs.declared.status.ChildStatus.TheVariants as ends
use Rattle.child_worker.specs.declared.stop.WorkStop.{WorkStop}
use Rattle.child_worker.specs.declared.stop.WorkStop.TheVariants as stops
use Rattle.child_worker.specs.declared.work.Work.{Work}

-- how a child ends where its job isn't answered
abbrev pub status_at : WorkStop → ChildStatus
status_at (stops.Fault fault) = ends.Job fault
status_at stops.Memory = ends.Memory

-- all bytes of an input were taken
pub record TookAll (before after : Option (List ℕ)) (work : Work) : Type 0 where
  pub bytes : List ℕ
  pub took : Took before after bytes
  pub over : IsOver after
  pub worked : HasWorked work bytes

-- why an input was not read or is no job
abbrev pub BreaksOff : InputState → InputState → ChildStatus → Type 0
BreaksOff before after ends.Done = ⊥
BreaksOff before after ends.Read = Rose before.faults after.faults × IsRestOf before.rest after.rest
BreaksOff before after ends.Sink = ⊥
BreaksOff before after (ends.Job fault) = IsMisspelled before.rest fault
BreaksOff before after ends.Memory = Unit {0}

-- an input was read to its end by work, or replied to
abbrev pub ReadsAll : {V : Type 0} → InputState → InputState → Work → Result V ChildStatus → Type 0
ReadsAll before after work (Ok value) = TookAll before.rest after.rest work
ReadsAll before after work (Err status) = BreaksOff before after status

abbrev pub RepliesToInput : {V : Type 0} → (V → List ℕ) → InputState → InputState → Result V ChildStatus → Type 0
RepliesToInput bytes_of before after (Ok reply) = IsOver after.rest × IsReplied before.rest (bytes_of reply)
RepliesToInput bytes_of before after (Err status) = BreaksOff before after status
