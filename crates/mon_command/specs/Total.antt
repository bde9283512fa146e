-- The text of `total`.
use Rattle.std.specs.Prelude.{◌≡◌, ℕ, ◌-◌, List, [], ◌∷◌, ◌++◌, length, Option, IfSome, codes, decimal}
use Rattle.mon_io.specs.Inputs.{IsLeft}
use Rattle.pcap_reader.specs.Laws.{HasTrace}
use Rattle.pcap_reader.specs.declared.header.Header.{Header}
use Rattle.pcap_reader.specs.Trace.{Record, Broken, IsTrace}
use Rattle.routed_trace.specs.Routed.{keyed_in}
use Rattle.routed_trace.specs.declared.fault.TraceFault.{TraceFault}
use Rattle.routed_trace.specs.declared.fault.TraceFault.TheVariants.{Pcap, Epochs, Weight}
use Rattle.mon_call.specs.Call.{Duty, Reading, reading}
use Rattle.mon_call.specs.Told.{HasBytes}
use Rattle.mon_call.specs.declared.status.Input.{Input}
use Rattle.mon_call.specs.declared.status.Input.TheVariants as inputs
use Rattle.mon_call.specs.declared.status.Status.{Status}
use Rattle.mon_call.specs.declared.status.Status.TheVariants.{Done, Trace}
use Rattle.mon_command.specs.declared.total.Counts.{Counts}

-- the lines of a number of packets, of which so many have a key
abbrev pub total_lines : ℕ → ℕ → List ℕ
total_lines packets keyed =
    codes "univmon total 1\npackets " ++ (decimal packets ++ (codes "\nkeyed " ++ (decimal keyed
    ++ (codes "\nunkeyed " ++ (decimal (packets - keyed) ++ codes "\nend\n")))))

-- the numbers of a trace's records and of those that have a key
pub record IsCount (contents : Option (List ℕ)) (counts : Counts) : Type 0 where
  pub header : Header
  pub members : List Record
  pub trace : IfSome contents (λ bytes. IsTrace bytes header members)
  pub packets : counts.packets ≡ length members
  pub keyed : counts.keyed ≡ keyed_in header members

-- the text for contents that are a trace of some records
pub record IsTotal (contents : Option (List ℕ)) (text : List ℕ) : Type 0 where
  pub counts : Counts
  pub is_count : IsCount contents counts
  pub lines : text ≡ total_lines counts.packets counts.keyed

-- told contents come to this fault of the format behind some records
abbrev pub IsBroken : Option (List ℕ) → TraceFault → Type 0
IsBroken contents (Pcap fault) = IfSome contents (λ bytes. (members : List Record) × Broken bytes members fault)
IsBroken contents (Epochs number index) = ⊥
IsBroken contents (Weight number) = ⊥

-- what is read
abbrev pub total_reads : List ℕ → List Reading
total_reads trace = reading inputs.Trace trace ∷ []

-- what is left of the trace
abbrev pub total_left : Option (List ℕ) → Input → Option (List ℕ) → Option (List ℕ) → Type 0
total_left contents inputs.Topology before now = ⊥
total_left contents inputs.Trace before now = IsLeft contents before now
total_left contents inputs.Tree before now = ⊥
total_left contents inputs.Job before now = ⊥

-- what the command owes, of the contents of the trace
abbrev pub total_duty : Option (List ℕ) → List ℕ → Duty
total_duty contents trace = record {
  reads = total_reads trace;
  due = IsTotal contents;
  unfit = λ fault. ⊥;
  refused = IsBroken contents;
  uncertified = λ fault. ⊥;
  misspelled = λ fault. ⊥;
  left = total_left contents;
}

-- the trace is told, and so is this status: that it has no fault, or the fault of its format
abbrev pub TellsTotal : Option (List ℕ) → Status → Type 0
TellsTotal contents Done = HasBytes contents HasTrace
TellsTotal contents (Trace (Pcap fault)) = HasBytes contents
    (λ bytes. (members : List Record) × Broken bytes members fault)
TellsTotal contents _ = ⊥
