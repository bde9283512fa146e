-- What is read is one thing, where it is told.
use Rattle.std.proofs.Common.{◌≡◌, ℕ, List, Option, Ok}
use Rattle.mon_call.proofs.Topologies.{at_bytes, good_or_bad}
use Rattle.mon_call.specs.Told.{HasBytes}
use Rattle.mon_call.specs.Topology.{IsUnfit, SpellTopology}
use Rattle.pcap_reader.proofs.Traces.{one_trace}
use Rattle.pcap_reader.specs.Trace.{IsTrace, Record}
use Rattle.pcap_reader.specs.declared.header.Header.{Header}
use Rattle.routed_trace.proofs.Fronts.{accepted_trace}
use Rattle.routed_trace.specs.Scan.{HasTraceFault}
use Rattle.routed_trace.specs.declared.division.Division.{Division}
use Rattle.routed_trace.specs.declared.fault.TraceFault.{TraceFault}
use Rattle.topology.specs.Topology.{Topo, topology_of}
use Rattle.topology.specs.declared.fault.TopologyFault.{TopologyFault}
use Rattle.measure_answers.specs.Measure.{IsRefused}
use Rattle.measure_answers.specs.Replayed.{Contents, IsTraced}
use Rattle.measure_told.specs.Told.{HasWork}

-- a trace that is told with a fault is none of divided records
pub not_traced : (contents : Option (List ℕ)) (division : Division) (fault : TraceFault)
    → HasBytes contents (λ bytes. HasTraceFault division bytes fault) → IsTraced contents division → ⊥
not_traced contents division fault told traced =
    let is = at_bytes (λ bytes. IsTrace bytes traced.header traced.members) told.1 traced.is_trace in
    accepted_trace division told.0 fault (traced.header, traced.members, is, traced.divided) told.2

module _ (contents : Contents) (division : Division) (topo : Topo) (header : Header) (members : List Record)
    (work : HasWork contents division topo header members)
  where
    -- told contents spell one topology
    pub same_topology : (other : Topo) → SpellTopology contents.topology other → other ≡ topo
    same_topology other spells =
        let own = at_bytes (λ bytes. topology_of bytes ≡ Ok other) work.topology.1 spells in
        let is = work.topology.2 in cc

    -- and one trace
    pub same_trace : (traced : IsTraced contents.trace division)
        → (traced.header ≡ header) × (traced.members ≡ members)
    same_trace traced =
        one_trace (at_bytes (λ bytes. IsTrace bytes traced.header traced.members) work.trace.1 traced.is_trace)
        work.trace.2

    -- neither has a fault
    pub not_unfit : (fault : TopologyFault) → IsUnfit contents.topology fault → ⊥
    not_unfit fault unfit =
        good_or_bad contents.topology fault (work.topology.0, work.topology.1, (topo, work.topology.2)) unfit

    pub not_refused : (fault : TraceFault) → IsRefused contents.trace division fault → ⊥
    not_refused fault refused =
        accepted_trace division work.trace.0 fault (header, members, work.trace.2, work.divided)
        (at_bytes (λ bytes. HasTraceFault division bytes fault) work.trace.1 refused)
