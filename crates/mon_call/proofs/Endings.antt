-- The answer of a call that ends with the last write, or without a topology or a trace.
use Rattle.std.proofs.Common.{ℕ, List, [], ◌∷◌, Option, Err, refl}
use Rattle.mon_io.specs.Inputs.{IsLeft, Picked}
use Rattle.routed_trace.specs.declared.fault.TraceFault.{TraceFault}
use Rattle.topology.specs.declared.fault.TopologyFault.{TopologyFault}
use Rattle.mon_call.specs.Call.{Answers, Call, Duty, Finishes, IsSilent, Picks, Reading, names_of, reading}
use Rattle.mon_call.specs.Topology.{IsUnfit, ReadsTopology}
use Rattle.mon_call.specs.Trace.{ReadsTrace}
use Rattle.mon_call.specs.declared.status.Input.TheVariants as inputs
use Rattle.mon_call.specs.declared.status.Status.{Status}
use Rattle.mon_call.specs.declared.status.Status.TheVariants.{Done, ReadFault, Topology, Trace, SinkFault, Memory}

-- the last write of a text that is due
pub finished : (duty : Duty) (call : Call) (text : List ℕ) (status : Status) → duty.due text
    → Finishes call.sink call.sink_after text status
    → Answers duty call status
finished duty call text Done due finishes = record { text = text; is_due = due; grew = finishes }
finished duty call text SinkFault due finishes = (finishes.0, record { text = text; is_due = due; part = finishes.1 })
finished duty call text _ due finishes = absurd finishes

pub picks_finished : (before after : List (List ℕ) → Type 0) (reads : List Reading) (call : Call) (text : List ℕ)
    (status : Status)
    → Finishes call.sink call.sink_after text status → Picked before after (names_of reads)
    → Picks before after reads status
picks_finished before after reads call text Done finishes picked = picked
picks_finished before after reads call text SinkFault finishes picked = picked
picks_finished before after reads call text _ finishes picked = absurd finishes

-- a topology that is not read or is refused
pub unread : (contents : Option (List ℕ)) (duty : Duty) (call : Call) (status : Status)
    → ((fault : TopologyFault) → IsUnfit contents fault → duty.unfit fault)
    → (IsLeft contents call.inputs.rest call.inputs_after.rest
    → duty.left inputs.Topology call.inputs.rest call.inputs_after.rest)
    → IsSilent call → ReadsTopology contents call.inputs call.inputs_after (Err status) → Answers duty call status
unread contents duty call (ReadFault inputs.Topology) unfit left silent reads = (reads.0, left reads.1, silent)
unread contents duty call (Topology fault) unfit left silent reads = (unfit fault reads, silent)
unread contents duty call Memory unfit left silent reads = silent
unread contents duty call _ unfit left silent reads = absurd reads

pub picks_unread : (before after : List (List ℕ) → Type 0) (contents : Option (List ℕ)) (name : List ℕ)
    (more : List Reading) (call : Call) (status : Status)
    → ReadsTopology contents call.inputs call.inputs_after (Err status) → Picked before after (name ∷ [])
    → Picks before after (reading inputs.Topology name ∷ more) status
picks_unread before after contents name more call (ReadFault inputs.Topology) reads picked = picked
picks_unread before after contents name more call (Topology fault) reads picked = picked
picks_unread before after contents name more call Memory reads picked =
    record { front = name ∷ []; back = names_of more; parts = refl; picked = picked }
picks_unread before after contents name more call _ reads picked = absurd reads

-- a trace that is not read or is refused
pub untraced : {V : Type 0} (P : V → Type 0) (refused : TraceFault → Type 0) (contents : Option (List ℕ)) (duty : Duty)
    (call : Call) (status : Status)
    → ((fault : TraceFault) → refused fault → duty.refused fault)
    → (IsLeft contents call.inputs.rest call.inputs_after.rest
    → duty.left inputs.Trace call.inputs.rest call.inputs_after.rest)
    → IsSilent call → ReadsTrace P refused contents call.inputs call.inputs_after (Err status)
    → Answers duty call status
untraced P refused contents duty call (ReadFault inputs.Trace) is left silent reads = (reads.0, left reads.1, silent)
untraced P refused contents duty call (Trace fault) is left silent reads = (is fault reads, silent)
untraced P refused contents duty call Memory is left silent reads = silent
untraced P refused contents duty call _ is left silent reads = absurd reads

pub picks_untraced : {V : Type 0} (P : V → Type 0) (refused : TraceFault → Type 0)
    (before after : List (List ℕ) → Type 0) (contents : Option (List ℕ)) (name : List ℕ) (call : Call) (status : Status)
    → ReadsTrace P refused contents call.inputs call.inputs_after (Err status) → Picked before after (name ∷ [])
    → Picks before after (reading inputs.Trace name ∷ []) status
picks_untraced P refused before after contents name call (ReadFault inputs.Trace) reads picked = picked
picks_untraced P refused before after contents name call (Trace fault) reads picked = picked
picks_untraced P refused before after contents name call Memory reads picked =
    record { front = name ∷ []; back = []; parts = refl; picked = picked }
picks_untraced P refused before after contents name call _ reads picked = absurd reads
