-- What a call owes by its words, and how it is answered.
use Rattle.std.specs.Prelude.{◌≡◌, ◌⊎◌, ℕ, List, [], Option, Result, Ok, Err, codes}
use Rattle.change_report.specs.Form.{Whole}
use Rattle.measure_answers.specs.Measure.{MeasureAnswers, TellsMeasure, measure_reads}
use Rattle.measure_answers.specs.Replayed.{contents_of}
use Rattle.mon_io.specs.Inputs.{PickedNothing}
use Rattle.mon_words.specs.declared.usage_fault.UsageFault.{UsageFault}
use Rattle.mon_call.specs.Call.{Answers, Call, Duty, IsSilent, Picks, Reading, UnlessMemory}
use Rattle.mon_call.specs.CrewCall.{CrewCall, IsIdle}
use Rattle.mon_call.specs.Told.{IsSmooth}
use Rattle.mon_call.specs.declared.status.Status.{Status}
use Rattle.mon_call.specs.declared.status.Status.TheVariants.{Usage}
use Rattle.mon_central.specs.Duty.{TellsCentral, central_duty, central_reads}
use Rattle.mon_check.specs.Duty.{TellsCheck, check_duty, check_reads}
use Rattle.mon_child.specs.Duty.{TellsChild, child_duty, child_reads}
use Rattle.mon_call.specs.declared.setting.Setting.{Setting}
use Rattle.mon_command.specs.Asked.{AloneCommand, Total, Central, Check, Child, Generate, Asked, Alone, Place, Measure, Drill}
use Rattle.mon_command.specs.Total.{TellsTotal, total_duty, total_reads}
use Rattle.mon_drill.specs.Drill.{Drills, made_for}
use Rattle.mon_generate.specs.Duty.{TellsGenerate, generate_duty}
use Rattle.mon_place.specs.Place.{PlaceAnswers, place_reads}
use Rattle.mon_place.specs.Told.{TellsPlace}
use Rattle.solve_phase.specs.Solving.{IsSolving}
use Rattle.solve_phase.specs.declared.solving.Solving.{Solving}

-- the contents by name
abbrev pub Contents : Type 0
Contents = List ℕ → Option (List ℕ)

-- what a command owes that starts nobody
abbrev pub duty_of : Contents → AloneCommand → Duty
duty_of contents (Total trace) = total_duty (contents trace) trace
duty_of contents (Central trace topology setting) = central_duty contents trace topology setting
duty_of contents (Check topology tree) = check_duty contents topology tree
duty_of contents Child = child_duty (contents (codes "-"))
duty_of contents (Generate part seed packets flows) = generate_duty part seed packets flows

-- what it reads, in order
abbrev pub reads_of : AloneCommand → List Reading
reads_of (Total trace) = total_reads trace
reads_of (Central trace topology setting) = central_reads trace topology
reads_of (Check topology tree) = check_reads topology tree
reads_of Child = child_reads
reads_of (Generate part seed packets flows) = []

-- what it reads is told, and so is this status
abbrev pub TellsAlone : Call → AloneCommand → Status → Type 0
TellsAlone call (Total trace) status = TellsTotal (call.inputs.contents trace) status
TellsAlone call (Central trace topology setting) status =
    TellsCentral call.inputs.contents trace topology setting status
TellsAlone call (Check topology tree) status = TellsCheck call.inputs.contents topology tree status
TellsAlone call Child status = TellsChild (call.inputs.contents (codes "-")) status
TellsAlone call (Generate part seed packets flows) status = TellsGenerate status

-- what any command reads is told, and so is this status
abbrev pub Tells : Call → Asked → Status → Type 0
Tells call (Alone asked) status = TellsAlone call asked status
Tells call (Place topology solving) status = TellsPlace (call.inputs.contents topology) status
Tells call (Measure topology trace setting solving) status =
    TellsMeasure (contents_of call.inputs topology trace) setting.division status
Tells call (Drill packets flows setting solving) status =
    TellsMeasure (made_for setting.seed packets flows) setting.division status

-- each status with its cause, and the inputs that were picked
pub record Answered (before after : List (List ℕ) → Type 0) (asked : AloneCommand) (call : Call) (status : Status)
    : Type 0 where
  pub answers : Answers (duty_of call.inputs.contents asked) call status
  pub picks : Picks before after (reads_of asked) status

-- the same of a command that starts children, with numbers within their limits unless the crew was asked nothing
pub record Placed (before after : List (List ℕ) → Type 0) (topology : List ℕ) (solving : Solving) (c : CrewCall)
    (status : Status) : Type 0 where
  pub limits : IsIdle c ⊎ IsSolving solving
  pub answers : PlaceAnswers (c.call.inputs.contents topology) solving c status
  pub picks : Picks before after (place_reads topology) status

-- the same of a measure of files
pub record Measured (before after : List (List ℕ) → Type 0) (topology trace : List ℕ) (setting : Setting)
    (solving : Solving) (c : CrewCall) (status : Status) : Type 0 where
  pub limits : IsIdle c ⊎ IsSolving solving
  pub answers : MeasureAnswers Whole (contents_of c.call.inputs topology trace) setting solving c status
  pub picks : Picks before after (measure_reads topology trace) status

-- and of one that reads nothing
pub record Drilled (before after : List (List ℕ) → Type 0) (packets flows : ℕ) (setting : Setting) (solving : Solving)
    (c : CrewCall) (status : Status) : Type 0 where
  pub limits : IsIdle c ⊎ IsSolving solving
  pub drills : Drills packets flows setting solving c.crew c.crew_after c.call.sink c.call.sink_after status
  pub none : PickedNothing before after
  pub stays : c.call.inputs_after ≡ c.call.inputs

-- the words are refused, unless memory runs out
pub record IsRefusal (before after : List (List ℕ) → Type 0) (fault : UsageFault) (call : Call) (status : Status)
    : Type 0 where
  pub told : UnlessMemory (Usage fault) status
  pub silent : IsSilent call
  pub none : PickedNothing before after

-- A call of the commands that start nobody is answered by its words, and else by what they ask for, which is none of the
-- other commands. Want of memory is free.
abbrev pub Outcome : (List (List ℕ) → Type 0) → (List (List ℕ) → Type 0) → Result Asked UsageFault → Call → Status
    → Type 0
Outcome before after (Ok (Alone asked)) call status = Answered before after asked call status
Outcome before after (Ok (Place topology solving)) call status = ⊥
Outcome before after (Ok (Measure topology trace setting solving)) call status = ⊥
Outcome before after (Ok (Drill packets flows setting solving)) call status = ⊥
Outcome before after (Err fault) call status = IsRefusal before after fault call status

-- A call of all commands is answered so too; those that start nobody leave the crew as it is.
abbrev pub CrewOutcome : (List (List ℕ) → Type 0) → (List (List ℕ) → Type 0) → Result Asked UsageFault → CrewCall
    → Status → Type 0
CrewOutcome before after (Ok (Alone asked)) c status = Answered before after asked c.call status × IsIdle c
CrewOutcome before after (Ok (Place topology solving)) c status = Placed before after topology solving c status
CrewOutcome before after (Ok (Measure topology trace setting solving)) c status =
    Measured before after topology trace setting solving c status
CrewOutcome before after (Ok (Drill packets flows setting solving)) c status =
    Drilled before after packets flows setting solving c status
CrewOutcome before after (Err fault) c status = IsRefusal before after fault c.call status × IsIdle c

-- the words are taken, and no count of faults rose
pub record IsCalm (read : Result Asked UsageFault) (asked : Asked) (call : Call) : Type 0 where
  pub taken : read ≡ Ok asked
  pub smooth : IsSmooth call
