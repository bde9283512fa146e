-- Of what is told only one status is shown.
use Rattle.std.proofs.Common.{◌≡◌, ℕ, List, Option, Some, None, refl, ap}
use Rattle.pcap_reader.specs.Trace.{IsTrace}
use Rattle.topology.specs.declared.fault.TopologyFault.{TopologyFault}
use Rattle.routed_trace.specs.Scan.{HasDividedTrace, HasTraceFault}
use Rattle.routed_trace.specs.declared.fault.TraceFault.{TraceFault}
use Rattle.routed_trace.proofs.Fronts.{accepted_trace, one_trace_fault}
use Rattle.mon_call.specs.Told.{HasBytes, IsTold, Shows}
use Rattle.mon_call.specs.declared.setting.Setting.{Setting}
use Rattle.mon_call.specs.declared.status.Status.{Status}
use Rattle.mon_call.specs.declared.status.Status.TheVariants.{Done, Topology, Trace}
use Rattle.mon_call.proofs.Topologies.{at_bytes, bad_or_good, good_or_bad, one_topology_fault}
use Rattle.mon_central.specs.Duty.{Contents, HasToldTopology, HasToldUnfit, HasTopology, IsCentral, IsRefused, IsUnfitNamed, TellsCentral, central_duty}

-- a topology that is told without a fault has none
no_unfit : (contents : Contents) (name : Option (List ℕ)) (fault : TopologyFault) → HasToldTopology contents name
    → IsUnfitNamed contents name fault → ⊥
no_unfit contents None fault told unfit = unfit
no_unfit contents (Some name) fault told unfit = good_or_bad (contents name) fault told unfit

-- one that is told with a fault is none
no_topology : (contents : Contents) (name : Option (List ℕ)) (fault : TopologyFault) → HasToldUnfit contents name fault
    → HasTopology contents name → ⊥
no_topology contents None fault told read = told
no_topology contents (Some name) fault told read = bad_or_good (contents name) fault read.1.0 told read.1.2

one_unfit : (contents : Contents) (name : Option (List ℕ)) (fault other : TopologyFault)
    → HasToldUnfit contents name fault → IsUnfitNamed contents name other → other ≡ fault
one_unfit contents None fault other told unfit = absurd told
one_unfit contents (Some name) fault other told unfit = one_topology_fault (contents name) fault other told unfit

-- a divided trace is refused for no cause
no_fault : (contents : Contents) (trace : List ℕ) (setting : Setting) (fault : TraceFault)
    → HasBytes (contents trace) (HasDividedTrace setting.division)
    → IsRefused contents trace setting fault → ⊥
no_fault contents trace setting fault told refused =
    accepted_trace setting.division told.0 fault told.2
    (at_bytes (λ bytes. HasTraceFault setting.division bytes fault) told.1 refused)

-- one with a fault has no text
no_text : (contents : Contents) (trace : List ℕ) (name : Option (List ℕ)) (setting : Setting) (fault : TraceFault)
    (text : List ℕ)
    → HasBytes (contents trace) (λ bytes. HasTraceFault setting.division bytes fault)
    → IsCentral contents trace name setting text → ⊥
no_text contents trace name setting fault text told due =
    let report = due.report in
    let is = at_bytes (λ bytes. IsTrace bytes report.header report.members) told.1 report.is_trace in
    accepted_trace setting.division told.0 fault (report.header, report.members, is, report.divided) told.2

same_fault : (contents : Contents) (trace : List ℕ) (setting : Setting) (fault other : TraceFault)
    → HasBytes (contents trace) (λ bytes. HasTraceFault setting.division bytes fault)
    → IsRefused contents trace setting other → other ≡ fault
same_fault contents trace setting fault other told refused =
    one_trace_fault setting.division told.0 fault other told.2
    (at_bytes (λ bytes. HasTraceFault setting.division bytes other) told.1 refused)

-- what is shown where no fault is told
when_accepted : (contents : Contents) (trace : List ℕ) (name : Option (List ℕ)) (setting : Setting) (status : Status)
    → TellsCentral contents trace name setting Done
    → Shows (central_duty contents trace name setting) status → status ≡ Done
when_accepted contents trace name setting Done told shows = refl
when_accepted contents trace name setting (Topology fault) told
    shows = absurd (no_unfit contents name fault told.0 shows)
when_accepted contents trace name setting (Trace fault) told
    shows = absurd (no_fault contents trace setting fault told.1 shows.1)
when_accepted contents trace name setting _ told shows = absurd shows

-- where the topology is told with a fault
when_unfit : (contents : Contents) (trace : List ℕ) (name : Option (List ℕ)) (setting : Setting) (fault : TopologyFault)
    (status : Status) → HasToldUnfit contents name fault
    → Shows (central_duty contents trace name setting) status → status ≡ Topology fault
when_unfit contents trace name setting fault Done told
    shows = absurd (no_topology contents name fault told (shows.1.topology, shows.1.read))
when_unfit contents trace name setting fault (Topology other) told shows = ap Topology
    (one_unfit contents name fault other told shows)
when_unfit contents trace name setting fault (Trace other) told
    shows = absurd (no_topology contents name fault told shows.0)
when_unfit contents trace name setting fault _ told shows = absurd shows

-- where the trace is told with a fault
when_refused : (contents : Contents) (trace : List ℕ) (name : Option (List ℕ)) (setting : Setting) (fault : TraceFault)
    (status : Status) → TellsCentral contents trace name setting (Trace fault)
    → Shows (central_duty contents trace name setting) status → status ≡ Trace fault
when_refused contents trace name setting fault Done told
    shows = absurd (no_text contents trace name setting fault shows.0 told.1 shows.1)
when_refused contents trace name setting fault (Topology other) told
    shows = absurd (no_unfit contents name other told.0 shows)
when_refused contents trace name setting fault (Trace other) told shows = ap Trace
    (same_fault contents trace setting fault other told.1 shows.1)
when_refused contents trace name setting fault _ told shows = absurd shows

pub central_told : (contents : Contents) (trace : List ℕ) (name : Option (List ℕ)) (setting : Setting) (wanted : Status)
    → TellsCentral contents trace name setting wanted
    → IsTold (central_duty contents trace name setting) wanted
central_told contents trace name setting Done told = record {
  alone = λ status shows. when_accepted contents trace name
      setting status told shows;
}
central_told contents trace name setting (Topology fault)
    told = record { alone = λ status shows. when_unfit contents trace name setting fault status told shows }
central_told contents trace name setting (Trace fault)
    told = record { alone = λ status shows. when_refused contents trace name setting fault status told shows }
central_told contents trace name setting _ told = absurd told
