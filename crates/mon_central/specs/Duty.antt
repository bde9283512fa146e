-- What `central` owes.
use Rattle.std.specs.Prelude.{◌≡◌, ℕ, List, [], ◌∷◌, Option, Some, None, IfSome, Ok}
use Rattle.mon_io.specs.Inputs.{IsLeft}
use Rattle.pcap_reader.specs.declared.header.Header.{Header}
use Rattle.pcap_reader.specs.Trace.{Record, IsTrace}
use Rattle.routed_trace.specs.Routed.{IsDivided}
use Rattle.routed_trace.specs.Scan.{HasDividedTrace, HasTraceFault}
use Rattle.routed_trace.specs.declared.fault.TraceFault.{TraceFault}
use Rattle.topology.specs.Topology.{Topo, topology_of}
use Rattle.topology.specs.declared.fault.TopologyFault.{TopologyFault}
use Rattle.mon_call.specs.Call.{Duty, IsSuffix, Reading, reading}
use Rattle.mon_call.specs.Told.{HasBytes}
use Rattle.mon_call.specs.Topology.{IsUnfit, SpellTopology}
use Rattle.mon_call.specs.declared.setting.Setting.{Setting}
use Rattle.mon_call.specs.declared.status.Input.{Input}
use Rattle.mon_call.specs.declared.status.Input.TheVariants as inputs
use Rattle.mon_call.specs.declared.status.Status.{Status}
use Rattle.mon_call.specs.declared.status.Status.TheVariants.{Done, Topology, Trace}
use Rattle.mon_central.specs.Central.{central_text}

-- the contents by name
abbrev pub Contents : Type 0
Contents = List ℕ → Option (List ℕ)

-- a topology is read where one is named, from told contents that spell it
abbrev pub IsTopology : Contents → Option (List ℕ) → Option Topo → Type 0
IsTopology contents None topology = topology ≡ None
IsTopology contents (Some name) topology = (read : Topo) × (topology ≡ Some read) × SpellTopology (contents name) read

-- the topology, where one is named, has no fault
abbrev pub HasTopology : Contents → Option (List ℕ) → Type 0
HasTopology contents name = (topology : Option Topo) × IsTopology contents name topology

-- the text for contents that are a trace of some records none of which is late or heavy
pub record IsReport (contents : Option (List ℕ)) (topology : Option Topo) (setting : Setting) (text : List ℕ) : Type 0
  where
    pub header : Header
    pub members : List Record
    pub is_trace : IfSome contents (λ bytes. IsTrace bytes header members)
    pub divided : IsDivided setting.division header members
    pub lines : text ≡ central_text setting topology header members

-- the text for a topology, where one is named, and a trace
pub record IsCentral (contents : Contents) (trace : List ℕ) (name : Option (List ℕ)) (setting : Setting)
    (text : List ℕ) : Type 0 where
  pub topology : Option Topo
  pub read : IsTopology contents name topology
  pub report : IsReport (contents trace) topology setting text

-- why the trace is refused
abbrev pub IsRefused : Contents → List ℕ → Setting → TraceFault → Type 0
IsRefused contents trace setting fault = IfSome (contents trace) (λ bytes. HasTraceFault setting.division bytes fault)

-- why the topology is refused, where one is named
abbrev pub IsUnfitNamed : Contents → Option (List ℕ) → TopologyFault → Type 0
IsUnfitNamed contents None fault = ⊥
IsUnfitNamed contents (Some name) fault = IsUnfit (contents name) fault

-- what is read: the topology, where one is named, and then the trace
abbrev pub central_reads : List ℕ → Option (List ℕ) → List Reading
central_reads trace None = reading inputs.Trace trace ∷ []
central_reads trace (Some name) = reading inputs.Topology name ∷ reading inputs.Trace trace ∷ []

-- what is left of the trace
abbrev pub report_left : Contents → List ℕ → Input → Option (List ℕ) → Option (List ℕ) → Type 0
report_left contents trace inputs.Topology before now = ⊥
report_left contents trace inputs.Trace before now = IsLeft (contents trace) before now
report_left contents trace inputs.Tree before now = ⊥
report_left contents trace inputs.Job before now = ⊥

-- what is left of an input: the topology, where one is named, was read to its end and has no fault before the trace
abbrev pub central_left : Contents → List ℕ → Option (List ℕ) → Input → Option (List ℕ) → Option (List ℕ) → Type 0
central_left contents trace None input before now = report_left contents trace input before now
central_left contents trace (Some name) inputs.Topology before now = IsLeft (contents name) before now
central_left contents trace (Some name) inputs.Trace before now =
    HasTopology contents (Some name) × IsSuffix (contents trace) now
central_left contents trace (Some name) inputs.Tree before now = ⊥
central_left contents trace (Some name) inputs.Job before now = ⊥

-- what the report on a trace owes, behind the topology
abbrev pub report_duty : Contents → List ℕ → Option Topo → Setting → Duty
report_duty contents trace topology setting = record {
  reads = central_reads trace None;
  due = IsReport (contents trace) topology setting;
  unfit = λ fault. ⊥;
  refused = IsRefused contents trace setting;
  uncertified = λ fault. ⊥;
  misspelled = λ fault. ⊥;
  left = report_left contents trace;
}

-- what the command owes
abbrev pub central_duty : Contents → List ℕ → Option (List ℕ) → Setting → Duty
central_duty contents trace name setting = record {
  reads = central_reads trace name;
  due = IsCentral contents trace name setting;
  unfit = IsUnfitNamed contents name;
  refused = λ fault. HasTopology contents name × IsRefused contents trace setting fault;
  uncertified = λ fault. ⊥;
  misspelled = λ fault. ⊥;
  left = central_left contents trace name;
}

-- the topology, where one is named, is told and has no fault
abbrev pub HasToldTopology : Contents → Option (List ℕ) → Type 0
HasToldTopology contents None = Unit {0}
HasToldTopology contents (Some name) = HasBytes (contents name)
    (λ bytes. (topology : Topo) × (topology_of bytes ≡ Ok topology))

-- the topology is told and has this fault
abbrev pub HasToldUnfit : Contents → Option (List ℕ) → TopologyFault → Type 0
HasToldUnfit contents None fault = ⊥
HasToldUnfit contents (Some name) fault = HasBytes (contents name) (λ bytes. IsUnfit (Some bytes) fault)

-- what is read is told, and so is this status: that it has no fault, or its first one
abbrev pub TellsCentral : Contents → List ℕ → Option (List ℕ) → Setting → Status → Type 0
TellsCentral contents trace name setting Done =
    HasToldTopology contents name × HasBytes (contents trace) (HasDividedTrace setting.division)
TellsCentral contents trace name setting (Topology fault) = HasToldUnfit contents name fault
TellsCentral contents trace name setting (Trace fault) =
    HasToldTopology contents name × HasBytes (contents trace) (λ bytes. HasTraceFault setting.division bytes fault)
TellsCentral contents trace name setting _ = ⊥
