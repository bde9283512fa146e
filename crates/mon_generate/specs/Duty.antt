-- What `generate` owes.
use Rattle.std.specs.Prelude.{◌≡◌, ℕ, List, []}
use Rattle.mon_call.specs.Call.{Duty}
use Rattle.mon_call.specs.declared.status.Status.{Status}
use Rattle.mon_call.specs.declared.status.Status.TheVariants.{Done}
use Rattle.mon_words.specs.declared.part.Part.{Part}
use Rattle.mon_words.specs.declared.part.Part.TheVariants as parts
use Rattle.trace_maker.specs.Topology.{generated_topology}
use Rattle.trace_maker.specs.Trace.{generated_trace}

-- the bytes of the made trace or topology
abbrev pub made : Part → ℕ → ℕ → ℕ → List ℕ
made parts.Trace seed packets flows = generated_trace seed packets flows
made parts.Topology seed packets flows = generated_topology

-- what the command owes: these bytes; it reads nothing
abbrev pub generate_duty : Part → ℕ → ℕ → ℕ → Duty
generate_duty part seed packets flows = record {
  reads = [];
  due = λ bytes. bytes ≡ made part seed packets flows;
  unfit = λ fault. ⊥;
  refused = λ fault. ⊥;
  uncertified = λ fault. ⊥;
  misspelled = λ fault. ⊥;
  left = λ input before now. ⊥;
}

-- nothing has to be told for the bytes to be written
abbrev pub TellsGenerate : Status → Type 0
TellsGenerate Done = Unit {0}
TellsGenerate _ = ⊥
