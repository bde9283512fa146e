-- How a trace is read to its end.
use Rattle.std.specs.Prelude.{⊤, ℕ, List, Option, Result, Ok, Err}
use Rattle.mon_io.specs.Faults.{Rose}
use Rattle.mon_io.specs.Inputs.{InputState, IsLeft}
use Rattle.pcap_reader.specs.declared.fault.PcapStop.{PcapStop}
use Rattle.pcap_reader.specs.declared.fault.PcapStop.TheVariants as stops
use Rattle.routed_trace.specs.declared.fault.TraceFault.{TraceFault}
use Rattle.routed_trace.specs.declared.fault.TraceFault.TheVariants.{Pcap}
use Rattle.mon_call.specs.declared.status.Input.TheVariants as inputs
use Rattle.mon_call.specs.declared.status.Status.{Status}
use Rattle.mon_call.specs.declared.status.Status.TheVariants.{ReadFault, Trace, Memory}

-- the status at a stop of the reader
abbrev pub status_at : PcapStop → Status
status_at stops.Read = ReadFault inputs.Trace
status_at (stops.Bad fault) = Trace (Pcap fault)
status_at stops.Memory = Memory

-- How reading a trace to its end ended: with a value of which P holds, or with the status of the call.
abbrev pub ReadsTrace : {V : Type 0} → (V → Type 0) → (TraceFault → Type 0) → Option (List ℕ) → InputState → InputState
    → Result V Status → Type 0
ReadsTrace P refused contents before now (Ok value) = P value
ReadsTrace P refused contents before now (Err (ReadFault inputs.Trace)) =
    Rose before.faults now.faults × IsLeft contents before.rest now.rest
ReadsTrace P refused contents before now (Err (Trace fault)) = refused fault
ReadsTrace P refused contents before now (Err Memory) = ⊤
ReadsTrace P refused contents before now (Err _) = ⊥
