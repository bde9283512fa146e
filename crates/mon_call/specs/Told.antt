-- When a status is told by what is read.
use Rattle.std.specs.Prelude.{◌≡◌, ℕ, List, Option, Some}
use Rattle.mon_io.specs.Faults.{Rose}
use Rattle.mon_call.specs.Call.{Call, Duty}
use Rattle.mon_call.specs.declared.status.Status.{Status}
use Rattle.mon_call.specs.declared.status.Status.TheVariants.{Done, Topology, Trace, Certificate, Job}

-- no count of faults rose
pub record IsSmooth (call : Call) : Type 0 where
  pub inputs : Rose call.inputs.faults call.inputs_after.faults → ⊥
  pub sink : Rose call.sink.faults call.sink_after.faults → ⊥

-- a fact of contents that are told
abbrev pub HasBytes : Option (List ℕ) → (List ℕ → Type 0) → Type 0
HasBytes contents P = (bytes : List ℕ) × (contents ≡ Some bytes) × P bytes

-- what a status shows of what was read: that a text is due, or that something is refused
abbrev pub Shows : Duty → Status → Type 0
Shows duty Done = (text : List ℕ) × duty.due text
Shows duty (Topology fault) = duty.unfit fault
Shows duty (Trace fault) = duty.refused fault
Shows duty (Certificate fault) = duty.uncertified fault
Shows duty (Job fault) = duty.misspelled fault
Shows duty _ = ⊥

-- where this status is told, what was read shows no other one
pub record IsTold (duty : Duty) (wanted : Status) : Type 0 where
  pub alone : (status : Status) → Shows duty status → status ≡ wanted
