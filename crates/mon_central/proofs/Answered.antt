-- The text that is due, and the answers behind a topology.
use Rattle.std.proofs.Common.{◌≡◌, ℕ, List, Option, Some, None, refl, subst}
use Rattle.mon_io.specs.Inputs.{InputState, IsOver}
use Rattle.pcap_reader.specs.Trace.{Record}
use Rattle.pcap_reader.specs.declared.header.Header.{Header}
use Rattle.topology.specs.Topology.{Topo}
use Rattle.mon_call.specs.Call.{IsSuffix}
use Rattle.mon_call.specs.Topology.{SpellTopology}
use Rattle.mon_call.specs.declared.setting.Setting.{Setting}
use Rattle.mon_call.specs.declared.status.Input.{Input}
use Rattle.mon_call.specs.declared.status.Input.TheVariants as inputs
use Rattle.mon_call.proofs.Behind.{IsBehind, suffix_left}
use Rattle.mon_central.specs.Central.{central_text}
use Rattle.mon_central.specs.Duty.{Contents, IsRefused, IsReport, central_duty, central_left, report_duty, report_left}
use Rattle.mon_central.specs.Sketched.{Divides, IsPart, IsSketched}
use Rattle.mon_central.specs.declared.epochs.Epochs.{Epochs}

-- what was sketched of a trace are some records
pub part_of_trace : {contents : Option (List ℕ)} {topology : Option Topo} {setting : Setting} {epochs : Epochs}
    → IsSketched contents topology setting epochs → IsPart setting topology epochs
part_of_trace is = record { header = is.header; members = is.members; few = is.few; divides = is.divides }

-- the text of what was sketched is due
pub report_due : {contents : Option (List ℕ)} {topology : Option Topo} {setting : Setting} {epochs : Epochs}
    {text : List ℕ} → IsSketched contents topology setting epochs
    → ((topo : Option Topo) (header : Header) (members : List Record) → Divides setting topo epochs header members
    → text ≡ central_text setting topo header members)
    → IsReport contents topology setting text
report_due {topology = topology} is lines = record {
  header = is.header;
  members = is.members;
  is_trace = is.is_trace;
  divided = is.divides.counts_are.divided;
  lines = lines topology is.header is.members is.divides;
}

-- without a topology the command owes its report
pub alone : (contents : Contents) (trace : List ℕ) (setting : Setting) (before : Option (List ℕ))
    → IsBehind (report_duty contents trace None setting) (central_duty contents trace None setting) before before
alone contents trace setting before = record {
  due = λ text report. record { topology = None; read = refl; report = report };
  unfit = λ fault unfit. unfit;
  refused = λ fault refused. ((None, refl), refused);
  uncertified = λ fault uncertified. uncertified;
  misspelled = λ fault misspelled. misspelled;
  left = λ input now left. left;
  once = λ now left. left;
}

-- behind a topology it owes the report with it
pub behind : (contents mid_contents : Contents) (trace name : List ℕ) (topology : Topo) (setting : Setting)
    (before mid : InputState)
    → mid_contents ≡ contents → SpellTopology (contents name) topology → IsOver mid.rest
    → IsBehind (report_duty mid_contents trace (Some topology) setting)
    (central_duty contents trace (Some name) setting) before.rest mid.rest
behind contents mid_contents trace name topology setting before mid same spelled over = record {
  due = λ text report. record {
    topology = Some topology;
    read = (topology, refl, spelled);
    report = subst (λ (f : Contents). IsReport (f trace) (Some topology) setting text) same report;
  };
  unfit = λ fault unfit. unfit;
  refused = λ fault refused. (
    (Some topology, (topology, refl, spelled)),
    subst
        (λ (f : Contents). IsRefused f trace setting fault) same refused,
  );
  uncertified = λ fault uncertified. uncertified;
  misspelled = λ fault misspelled. misspelled;
  left = left;
  once = λ now left. left;
}
  where
    left : (input : Input) (now : Option (List ℕ)) → report_left mid_contents trace input mid.rest now
        → central_left contents trace (Some name) input before.rest now
    left inputs.Topology now is = absurd is
    left inputs.Trace now is = (
      (Some topology, (topology, refl, spelled)),
      subst (λ (f : Contents). IsSuffix (f trace) now) same (suffix_left (mid_contents trace) mid.rest now over is),
    )
    left inputs.Tree now is = absurd is
    left inputs.Job now is = absurd is
