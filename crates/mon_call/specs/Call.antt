-- What a call answers, and what it shows of the cause.
use Rattle.std.specs.Prelude.{◌≡◌, ◌⊎◌, ◌≤◌, ℕ, Bool, true, false, List, [], ◌∷◌, ◌++◌, map, Option, IfSome, if◌then◌else◌}
use Rattle.mon_io.specs.Faults.{Rose}
use Rattle.mon_io.specs.Inputs.{InputState, Picked, PickedNothing}
use Rattle.mon_io.specs.Sink.{SinkState, Grew, GrewByPart}
use Rattle.certificate_text.specs.declared.fault.CertFault.{CertFault}
use Rattle.job_format.specs.declared.fault.JobFault.{JobFault}
use Rattle.routed_trace.specs.declared.fault.TraceFault.{TraceFault}
use Rattle.topology.specs.declared.fault.TopologyFault.{TopologyFault}
use Rattle.mon_call.specs.declared.status.Input.{Input}
use Rattle.mon_call.specs.declared.status.Input.TheVariants as inputs
use Rattle.mon_call.specs.declared.status.Status.{Status}
use Rattle.mon_call.specs.declared.status.Status.TheVariants.{Done, Usage, ReadFault, Topology, Trace, Certificate, Job, SinkFault, Memory}

-- the inputs and the sink, before and after
pub record Call : Type 0 where
  pub inputs : InputState
  pub inputs_after : InputState
  pub sink : SinkState
  pub sink_after : SinkState

abbrev pub call_of : InputState → InputState → SinkState → SinkState → Call
call_of inputs inputs_after sink sink_after =
    record { inputs = inputs; inputs_after = inputs_after; sink = sink; sink_after = sink_after }

-- an input that is read, by its name
pub record Reading : Type 0 where
  pub input : Input
  pub name : List ℕ

abbrev pub reading : Input → List ℕ → Reading
reading input name = record { input = input; name = name }

-- What a command owes: which inputs it reads, in order; which text is due; why it refuses what it reads; and what is
-- left of an input, from what was left before, where it could not be picked or read.
pub record Duty : Type 1 where
  pub reads : List Reading
  pub due : List ℕ → Type 0
  pub unfit : TopologyFault → Type 0
  pub refused : TraceFault → Type 0
  pub uncertified : CertFault → Type 0
  pub misspelled : JobFault → Type 0
  pub left : Input → Option (List ℕ) → Option (List ℕ) → Type 0

-- nothing was appended
abbrev pub IsSilent : Call → Type 0
IsSilent call = call.sink_after.written ≡ call.sink.written

-- exactly a text that is due was appended
pub record Wrote (due : List ℕ → Type 0) (call : Call) : Type 0 where
  pub text : List ℕ
  pub is_due : due text
  pub grew : Grew call.sink.written call.sink_after.written text

-- a prefix of a text that is due was appended
pub record WrotePart (due : List ℕ → Type 0) (call : Call) : Type 0 where
  pub text : List ℕ
  pub is_due : due text
  pub part : GrewByPart call.sink.written call.sink_after.written text

-- each status of a command that starts nobody, with its cause; want of memory is free
abbrev pub Answers : Duty → Call → Status → Type 0
Answers duty call Done = Wrote duty.due call
Answers duty call (ReadFault input) =
    Rose call.inputs.faults call.inputs_after.faults × duty.left input call.inputs.rest call.inputs_after.rest
    × IsSilent call
Answers duty call (Topology fault) = duty.unfit fault × IsSilent call
Answers duty call (Trace fault) = duty.refused fault × IsSilent call
Answers duty call (Certificate fault) = duty.uncertified fault × IsSilent call
Answers duty call (Job fault) = duty.misspelled fault × IsSilent call
Answers duty call SinkFault = Rose call.sink.faults call.sink_after.faults × WrotePart duty.due call
Answers duty call Memory = IsSilent call
Answers duty call _ = ⊥

-- No contents by name changed, and no count of faults fell.
pub record Keeps (call : Call) : Type 0 where
  pub contents : call.inputs_after.contents ≡ call.inputs.contents
  pub inputs_later : call.inputs.faults ≤ call.inputs_after.faults
  pub sink_later : call.sink.faults ≤ call.sink_after.faults

-- how the last write ended: the whole text was appended, or a prefix of it where the count rose
abbrev pub Finishes : SinkState → SinkState → List ℕ → Status → Type 0
Finishes before after text Done = Grew before.written after.written text
Finishes before after text SinkFault = Rose before.faults after.faults × GrewByPart before.written after.written text
Finishes before after text _ = ⊥

-- whether two inputs are one
abbrev pub is_input : Input → Input → Bool
is_input inputs.Topology inputs.Topology = true
is_input inputs.Trace inputs.Trace = true
is_input inputs.Tree inputs.Tree = true
is_input inputs.Job inputs.Job = true
is_input _ _ = false

-- the names of all inputs that are read, in their order
abbrev pub names_of : List Reading → List (List ℕ)
names_of reads = map (λ read. read.name) reads

-- the names up to and with that of an input
abbrev pub names_to : Input → List Reading → List (List ℕ)
names_to input [] = []
names_to input (read ∷ reads) = read.name ∷ (if is_input read.input input then [] else names_to input reads)

-- the first of these names were picked, however many
pub record PickedSome (before after : List (List ℕ) → Type 0) (names : List (List ℕ)) : Type 0 where
  pub front : List (List ℕ)
  pub back : List (List ℕ)
  pub parts : names ≡ front ++ back
  pub picked : Picked before after front

-- Which inputs were picked, each once and in order: none where the words are refused; all up to and with the one that
-- could not be read or is refused; the first of them where memory ran out; and else all.
abbrev pub Picks : (List (List ℕ) → Type 0) → (List (List ℕ) → Type 0) → List Reading → Status → Type 0
Picks before after reads (Usage fault) = PickedNothing before after
Picks before after reads (ReadFault input) = Picked before after (names_to input reads)
Picks before after reads (Topology fault) = Picked before after (names_to inputs.Topology reads)
Picks before after reads (Trace fault) = Picked before after (names_to inputs.Trace reads)
Picks before after reads (Certificate fault) = Picked before after (names_to inputs.Tree reads)
Picks before after reads (Job fault) = Picked before after (names_to inputs.Job reads)
Picks before after reads Memory = PickedSome before after (names_of reads)
Picks before after reads _ = Picked before after (names_of reads)

-- what is left is a suffix of the contents, where both are told
abbrev pub IsSuffix : Option (List ℕ) → Option (List ℕ) → Type 0
IsSuffix contents now = IfSome contents (λ bytes. IfSome now (λ rest. (front : List ℕ) × (bytes ≡ front ++ rest)))

-- this status, unless memory runs out
abbrev pub UnlessMemory : Status → Status → Type 0
UnlessMemory wanted status = (status ≡ wanted) ⊎ (status ≡ Memory)
