-- What a measure answers where a fault of what is read is told.
use Rattle.std.proofs.Common.{◌≡◌, Ok, Err, refl, ap, inl, inr}
use Rattle.change_report.specs.Form.{Form}
use Rattle.measure_answers.specs.Measure.{MeasureAnswers}
use Rattle.measure_answers.specs.Replayed.{Contents}
use Rattle.mon_call.proofs.Topologies.{at_bytes, bad_or_good, good_or_bad}
use Rattle.mon_call.specs.Call.{UnlessMemory}
use Rattle.mon_call.specs.CrewCall.{CrewCall}
use Rattle.mon_call.specs.Told.{HasBytes, IsSmooth}
use Rattle.mon_call.specs.declared.setting.Setting.{Setting}
use Rattle.mon_call.specs.declared.status.Input.TheVariants as inputs
use Rattle.mon_call.specs.declared.status.Phase.TheVariants as phases
use Rattle.mon_call.specs.declared.status.Status.{Status}
use Rattle.mon_call.specs.declared.status.Status.TheVariants as statuses
use Rattle.mon_place.proofs.Told.{place_unfit}
use Rattle.routed_trace.proofs.Fronts.{one_trace_fault}
use Rattle.routed_trace.specs.Scan.{HasTraceFault}
use Rattle.routed_trace.specs.declared.fault.TraceFault.{TraceFault}
use Rattle.solve_phase.specs.declared.solving.Solving.{Solving}
use Rattle.topology.specs.Topology.{Topo, topology_of}
use Rattle.topology.specs.declared.fault.TopologyFault.{TopologyFault}
use Rattle.measure_told.proofs.Read.{not_traced}

module _ (form : Form) (contents : Contents) (setting : Setting) (solving : Solving) (c : CrewCall)
    (smooth : IsSmooth c.call)
  where
    -- a fault of the topology is told
    pub measure_unfit : (fault : TopologyFault) (status : Status)
        → HasBytes contents.topology (λ bytes. topology_of bytes ≡ Err fault)
        → MeasureAnswers form contents setting solving c status → UnlessMemory (statuses.Topology fault) status
    measure_unfit fault statuses.Done told answers =
        let placed = answers.is_due.has.placed in
        absurd (bad_or_good contents.topology fault placed.topo told placed.spells)
    measure_unfit fault statuses.Infeasible told answers =
        place_unfit contents.topology solving c fault statuses.Infeasible smooth told answers.0
    measure_unfit fault (statuses.SearchBudget nodes) told answers =
        place_unfit contents.topology solving c fault (statuses.SearchBudget nodes) smooth told answers.0
    measure_unfit fault statuses.SinkFault told answers = absurd (smooth.sink answers.0)
    measure_unfit fault (statuses.ReadFault inputs.Topology) told answers = absurd (smooth.inputs answers.0)
    measure_unfit fault (statuses.ReadFault inputs.Trace) told answers = absurd (smooth.inputs answers.0)
    measure_unfit fault (statuses.Topology other) told answers =
        place_unfit contents.topology solving c fault (statuses.Topology other) smooth told answers
    measure_unfit fault (statuses.Trace other) told answers =
        absurd (bad_or_good contents.topology fault answers.0.0 told answers.0.1)
    measure_unfit fault (statuses.RestartsSpent phases.Solve job bad) told answers =
        place_unfit contents.topology solving c fault (statuses.RestartsSpent phases.Solve job bad) smooth told answers.0
    measure_unfit fault (statuses.RestartsSpent phases.Replay job bad) told answers =
        absurd (bad_or_good contents.topology fault answers.0.placed.topo told answers.0.placed.spells)
    measure_unfit fault (statuses.StaleLimit phases.Solve) told answers =
        place_unfit contents.topology solving c fault (statuses.StaleLimit phases.Solve) smooth told answers.0
    measure_unfit fault (statuses.StaleLimit phases.Replay) told answers =
        absurd (bad_or_good contents.topology fault answers.0.placed.topo told answers.0.placed.spells)
    measure_unfit fault statuses.Memory told answers = inr refl
    measure_unfit fault _ told answers = absurd answers

    -- so is a fault of the trace behind a topology without one
    pub measure_refused : (fault : TraceFault) (status : Status)
        → HasBytes contents.topology (λ bytes. (topo : Topo) × (topology_of bytes ≡ Ok topo))
        → HasBytes contents.trace (λ bytes. HasTraceFault setting.division bytes fault)
        → MeasureAnswers form contents setting solving c status → UnlessMemory (statuses.Trace fault) status
    measure_refused fault statuses.Done topology trace answers =
        absurd (not_traced contents.trace setting.division fault trace answers.is_due.has.placed.traced)
    measure_refused fault statuses.Infeasible topology trace answers =
        absurd (not_traced contents.trace setting.division fault trace answers.1)
    measure_refused fault (statuses.SearchBudget nodes) topology trace answers =
        absurd (not_traced contents.trace setting.division fault trace answers.1)
    measure_refused fault statuses.SinkFault topology trace answers = absurd (smooth.sink answers.0)
    measure_refused fault (statuses.ReadFault inputs.Topology) topology trace answers = absurd (smooth.inputs answers.0)
    measure_refused fault (statuses.ReadFault inputs.Trace) topology trace answers = absurd (smooth.inputs answers.0)
    measure_refused fault (statuses.Topology other) topology trace answers =
        absurd (good_or_bad contents.topology other topology answers.0)
    measure_refused fault (statuses.Trace other) topology trace answers =
        inl (ap statuses.Trace (one_trace_fault setting.division trace.0 fault other trace.2
        (at_bytes (λ bytes. HasTraceFault setting.division bytes other) trace.1 answers.1)))
    measure_refused fault (statuses.RestartsSpent phases.Solve job bad) topology trace answers =
        absurd (not_traced contents.trace setting.division fault trace answers.1)
    measure_refused fault (statuses.RestartsSpent phases.Replay job bad) topology trace answers =
        absurd (not_traced contents.trace setting.division fault trace answers.0.placed.traced)
    measure_refused fault (statuses.StaleLimit phases.Solve) topology trace answers =
        absurd (not_traced contents.trace setting.division fault trace answers.1)
    measure_refused fault (statuses.StaleLimit phases.Replay) topology trace answers =
        absurd (not_traced contents.trace setting.division fault trace answers.0.placed.traced)
    measure_refused fault statuses.Memory topology trace answers = inr refl
    measure_refused fault _ topology trace answers = absurd answers
