-- What each way to end shows of a child.
use Rattle.std.specs.Prelude.{◌≡◌, ◌⊎◌, ℕ, List, [], ◌∷◌, Option, IfSome, codes}
use Rattle.mon_io.specs.Faults.{Rose}
use Rattle.mon_io.specs.Inputs.{InputState, IsLeft, IsOver, Picked, PickedNothing}
use Rattle.mon_io.specs.Sink.{SinkState, Grew, GrewByPart}
use Rattle.job_format.specs.Job.{Job, SpellsJob}
use Rattle.job_format.specs.Read.{BreaksJob}
use Rattle.job_format.specs.declared.fault.JobFault.{JobFault}
use Rattle.child_worker.specs.Replies.{IsAnswer}
use Rattle.child_worker.specs.declared.status.ChildStatus.{ChildStatus}
use Rattle.child_worker.specs.declared.status.ChildStatus.TheVariants as ends

-- a text answers the job that told contents spell
pub record IsReplied (contents : Option (List ℕ)) (text : List ℕ) : Type 0 where
  pub job : Job
  pub spelled : IfSome contents (λ bytes. SpellsJob job bytes)
  pub answers : IsAnswer job text

-- told contents are no job, by this first breach
abbrev pub IsMisspelled : Option (List ℕ) → JobFault → Type 0
IsMisspelled contents fault = IfSome contents (λ bytes. BreaksJob bytes fault)

-- nothing was appended
abbrev pub IsSilent : SinkState → SinkState → Type 0
IsSilent before after = after.written ≡ before.written

-- a reply was appended, and a prefix of one
pub record Wrote (contents : Option (List ℕ)) (before after : SinkState) : Type 0 where
  pub text : List ℕ
  pub is_due : IsReplied contents text
  pub grew : Grew before.written after.written text

pub record WrotePart (contents : Option (List ℕ)) (before after : SinkState) : Type 0 where
  pub text : List ℕ
  pub is_due : IsReplied contents text
  pub part : GrewByPart before.written after.written text

-- each way to end, with its cause; want of memory is free
abbrev pub Ends : Option (List ℕ) → InputState → InputState → SinkState → SinkState → ChildStatus → Type 0
Ends contents inputs inputs_after sink sink_after ends.Done =
    IsOver inputs_after.rest × Wrote contents sink sink_after
Ends contents inputs inputs_after sink sink_after ends.Read =
    Rose inputs.faults inputs_after.faults × IsLeft contents inputs.rest inputs_after.rest × IsSilent sink sink_after
Ends contents inputs inputs_after sink sink_after ends.Sink =
    Rose sink.faults sink_after.faults × WrotePart contents sink sink_after
Ends contents inputs inputs_after sink sink_after (ends.Job fault) =
    IsMisspelled contents fault × IsSilent sink sink_after
Ends contents inputs inputs_after sink sink_after ends.Memory = IsSilent sink sink_after

-- standard input was picked once, and no other name; where memory ran out, perhaps none
abbrev pub standard_input : List (List ℕ)
standard_input = codes "-" ∷ []

abbrev pub PicksJob : (List (List ℕ) → Type 0) → (List (List ℕ) → Type 0) → ChildStatus → Type 0
PicksJob before after ends.Done = Picked before after standard_input
PicksJob before after ends.Read = Picked before after standard_input
PicksJob before after ends.Sink = Picked before after standard_input
PicksJob before after (ends.Job fault) = Picked before after standard_input
PicksJob before after ends.Memory = Picked before after standard_input ⊎ PickedNothing before after
