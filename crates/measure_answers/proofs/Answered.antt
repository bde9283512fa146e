-- What a measure answers where no placement was found.
use Rattle.std.proofs.Common.{◌≤◌, ℕ, List, [], ◌∷◌, Option, Err, refl, sym, subst, inl, inr}
use Rattle.bound_certificate.specs.declared.outcome.Outcome.{Outcome}
use Rattle.bound_certificate.specs.declared.outcome.Outcome.TheVariants as outcomes
use Rattle.change_report.specs.Form.{Form}
use Rattle.crew.specs.Crew.{CrewState}
use Rattle.mon_io.specs.Inputs.{InputState, IsOver, Picked}
use Rattle.mon_io.specs.Sink.{SinkState}
use Rattle.mon_call.proofs.Behind.{picked_more, rose_later, suffix_left}
use Rattle.mon_call.specs.Call.{IsSilent, Picks}
use Rattle.mon_call.specs.CrewCall.{CrewCall, IsIdle}
use Rattle.mon_call.specs.Topology.{ReadsTopology, SpellTopology}
use Rattle.mon_call.specs.Trace.{ReadsTrace}
use Rattle.mon_call.specs.declared.setting.Setting.{Setting}
use Rattle.mon_call.specs.declared.status.Input.TheVariants as inputs
use Rattle.mon_call.specs.declared.status.Phase.{Phase}
use Rattle.mon_call.specs.declared.status.Phase.TheVariants as phases
use Rattle.mon_call.specs.declared.status.Status.{Status}
use Rattle.mon_call.specs.declared.status.Status.TheVariants as statuses
use Rattle.mon_place.proofs.Answered.{given_up, unread}
use Rattle.mon_place.specs.Place.{IsOutcome, PlaceAnswers, Reports, status_of, stop_status}
use Rattle.replay_supervisor.specs.declared.stop.Stop.{Stop}
use Rattle.replay_supervisor.specs.declared.stop.Stop.TheVariants as stops
use Rattle.routed_trace.specs.declared.fault.TraceFault.{TraceFault}
use Rattle.solve_phase.specs.Phase.{Solves}
use Rattle.solve_phase.specs.declared.solving.Solving.{Solving}
use Rattle.topology.specs.Topology.{Topo}
use Rattle.measure_answers.specs.Measure.{IsRefused, MeasureAnswers, measure_reads}
use Rattle.measure_answers.specs.Replayed.{Contents, IsTraced}
use Rattle.measure_answers.specs.Reported.{IsLate, ReportsShares, Shares}

-- an outcome without a placement
abbrev pub IsUnplacedOutcome : Outcome → Type 0
IsUnplacedOutcome (outcomes.Placed placement tree) = ⊥
IsUnplacedOutcome (outcomes.Infeasible tree) = Unit {0}
IsUnplacedOutcome (outcomes.Spent tree) = Unit {0}

module _ (form : Form) (contents : Contents) (setting : Setting) (solving : Solving) (c : CrewCall)
    (traced : IsTraced contents.trace setting.division)
  where
    -- the text of such an outcome was reported
    pub unplaced : (outcome : Outcome) (text : List ℕ) (status : Status) → IsUnplacedOutcome outcome
        → IsOutcome contents.topology solving c outcome text
        → Reports text (status_of solving.nodes outcome) c.call.sink c.call.sink_after status
        → MeasureAnswers form contents setting solving c status
    unplaced (outcomes.Placed placement tree) text status none is reports = absurd none
    unplaced (outcomes.Infeasible tree) text status none is (inl (same, grew)) =
        subst (MeasureAnswers form contents setting solving c) (sym same)
        (record { text = text; is_due = (tree, is); grew = grew }, traced)
    unplaced (outcomes.Infeasible tree) text status none is (inr (inl (same, (rose, part)))) =
        subst (MeasureAnswers form contents setting solving c) (sym same)
        (rose, inr (record { text = text; is_due = (inl (tree, is), traced); part = part }))
    unplaced (outcomes.Infeasible tree) text status none is (inr (inr (same, silent))) =
        subst (MeasureAnswers form contents setting solving c) (sym same)
        (inl (inr (inr (outcomes.Infeasible tree, is.has)), silent))
    unplaced (outcomes.Spent tree) text status none is (inl (same, grew)) =
        subst (MeasureAnswers form contents setting solving c) (sym same)
        ((refl, record { text = text; is_due = (tree, is); grew = grew }), traced)
    unplaced (outcomes.Spent tree) text status none is (inr (inl (same, (rose, part)))) =
        subst (MeasureAnswers form contents setting solving c) (sym same)
        (rose, inr (record { text = text; is_due = (inr (tree, is), traced); part = part }))
    unplaced (outcomes.Spent tree) text status none is (inr (inr (same, silent))) =
        subst (MeasureAnswers form contents setting solving c) (sym same)
        (inl (inr (inr (outcomes.Spent tree, is.has)), silent))

    -- the search was given up
    as_place : (stop : Stop) → PlaceAnswers contents.topology solving c (stop_status phases.Solve stop)
        → MeasureAnswers form contents setting solving c (stop_status phases.Solve stop)
    as_place (stops.RestartsSpent job bad) answers = (answers, traced)
    as_place stops.StaleLimit answers = (answers, traced)
    as_place stops.Memory answers = inl answers

    pub search_given_up : (topo : Topo) (stop : Stop) → SpellTopology contents.topology topo
        → Solves topo.problem solving c.crew c.crew_after (Err stop) → IsSilent c.call
        → MeasureAnswers form contents setting solving c (stop_status phases.Solve stop)
    search_given_up topo stop spells ends silent =
        as_place stop (given_up contents.topology solving c topo stop spells ends silent)

module _ (form : Form) (contents : Contents) (setting : Setting) (solving : Solving) (c : CrewCall) (idle : IsIdle c)
    (silent : IsSilent c.call)
  where
    -- a topology that is not read or is refused
    pub untopologied : (status : Status)
        → ReadsTopology contents.topology c.call.inputs c.call.inputs_after (Err status)
        → MeasureAnswers form contents setting solving c status
    untopologied (statuses.ReadFault inputs.Topology) reads =
        unread contents.topology solving c (statuses.ReadFault inputs.Topology) idle silent reads
    untopologied (statuses.Topology fault) reads =
        unread contents.topology solving c (statuses.Topology fault) idle silent reads
    untopologied statuses.Memory reads =
        inl (unread contents.topology solving c statuses.Memory idle silent reads)
    untopologied _ reads = absurd reads

    -- a trace that is not read or is refused, behind a topology that was
    pub untraced : {V : Type 0} (P : V → Type 0) (topo : Topo) (mid : InputState) (status : Status)
        → SpellTopology contents.topology topo → IsOver mid.rest → c.call.inputs.faults ≤ mid.faults
        → ReadsTrace P (IsRefused contents.trace setting.division) contents.trace mid c.call.inputs_after (Err status)
        → MeasureAnswers form contents setting solving c status
    untraced P topo mid (statuses.ReadFault inputs.Trace) spells over later (rose, left) = (
      rose_later c.call.inputs.faults mid.faults c.call.inputs_after.faults later rose,
      (topo, spells),
      suffix_left contents.trace mid.rest c.call.inputs_after.rest over left,
      idle,
      silent,
    )
    untraced P topo mid (statuses.Trace fault) spells over later refused = ((topo, spells), refused, idle, silent)
    untraced P topo mid statuses.Memory spells over later reads = inl (inl idle, silent)
    untraced P topo mid _ spells over later reads = absurd reads

-- which inputs are picked where the topology is not read or is refused
pub picks_first : (before after : List (List ℕ) → Type 0) (contents : Option (List ℕ)) (earlier later : InputState)
    (topology trace : List ℕ) (status : Status)
    → ReadsTopology contents earlier later (Err status) → Picked before after (topology ∷ [])
    → Picks before after (measure_reads topology trace) status
picks_first before after contents earlier later topology trace (statuses.ReadFault inputs.Topology) reads picked = picked
picks_first before after contents earlier later topology trace (statuses.Topology fault) reads picked = picked
picks_first before after contents earlier later topology trace statuses.Memory reads picked =
    record { front = topology ∷ []; back = trace ∷ []; parts = refl; picked = picked }
picks_first before after contents earlier later topology trace _ reads picked = absurd reads

-- where the trace is not read or is refused behind it
pub picks_second : {V : Type 0} (before mid after : List (List ℕ) → Type 0) (P : V → Type 0) (refused : TraceFault → Type 0)
    (contents : Option (List ℕ)) (earlier later : InputState) (topology trace : List ℕ) (status : Status)
    → ReadsTrace P refused contents earlier later (Err status) → Picked before mid (topology ∷ [])
    → Picked mid after (trace ∷ [])
    → Picks before after (measure_reads topology trace) status
picks_second before mid after P refused contents earlier later topology trace (statuses.ReadFault inputs.Trace) reads first
    second = picked_more before mid after (topology ∷ []) (trace ∷ []) first second
picks_second before mid after P refused contents earlier later topology trace (statuses.Trace fault) reads first second =
    picked_more before mid after (topology ∷ []) (trace ∷ []) first second
picks_second before mid after P refused contents earlier later topology trace statuses.Memory reads first second = record {
  front = topology ∷ trace ∷ [];
  back = [];
  parts = refl;
  picked = picked_more before mid after (topology ∷ []) (trace ∷ []) first second;
}
picks_second before mid after P refused contents earlier later topology trace _ reads first second = absurd reads

-- and behind both
pub picks_both : (before mid after : List (List ℕ) → Type 0) (topology trace : List ℕ) (status : Status) → IsLate status
    → Picked before mid (topology ∷ []) → Picked mid after (trace ∷ [])
    → Picks before after (measure_reads topology trace) status
picks_both before mid after topology trace statuses.Done late first second =
    picked_more before mid after (topology ∷ []) (trace ∷ []) first second
picks_both before mid after topology trace statuses.Infeasible late first second =
    picked_more before mid after (topology ∷ []) (trace ∷ []) first second
picks_both before mid after topology trace (statuses.SearchBudget nodes) late first second =
    picked_more before mid after (topology ∷ []) (trace ∷ []) first second
picks_both before mid after topology trace (statuses.RestartsSpent phase job bad) late first second =
    picked_more before mid after (topology ∷ []) (trace ∷ []) first second
picks_both before mid after topology trace (statuses.StaleLimit phase) late first second =
    picked_more before mid after (topology ∷ []) (trace ∷ []) first second
picks_both before mid after topology trace statuses.SinkFault late first second =
    picked_more before mid after (topology ∷ []) (trace ∷ []) first second
picks_both before mid after topology trace statuses.Memory late first second = record {
  front = topology ∷ trace ∷ [];
  back = [];
  parts = refl;
  picked = picked_more before mid after (topology ∷ []) (trace ∷ []) first second;
}
picks_both before mid after topology trace _ late first second = absurd late

-- what is told behind both
pub late_stop : (phase : Phase) (stop : Stop) → IsLate (stop_status phase stop)
late_stop phase (stops.RestartsSpent job bad) = tt
late_stop phase stops.StaleLimit = tt
late_stop phase stops.Memory = tt

late_outcome : (nodes : ℕ) (outcome : Outcome) → IsLate (status_of nodes outcome)
late_outcome nodes (outcomes.Placed placement tree) = tt
late_outcome nodes (outcomes.Infeasible tree) = tt
late_outcome nodes (outcomes.Spent tree) = tt

pub late_report : (text : List ℕ) (nodes : ℕ) (outcome : Outcome) (sink later : SinkState) (status : Status)
    → Reports text (status_of nodes outcome) sink later status → IsLate status
late_report text nodes outcome sink later status (inl (same, grew)) =
    subst IsLate (sym same) (late_outcome nodes outcome)
late_report text nodes outcome sink later status (inr (inl (same, part))) = subst IsLate (sym same) tt
late_report text nodes outcome sink later status (inr (inr (same, silent))) = subst IsLate (sym same) tt

pub late_shares : (shares : Shares) (before after : CrewState) (sink later : SinkState) (status : Status)
    → ReportsShares shares before after sink later status → IsLate status
late_shares shares before after sink later statuses.Done reports = tt
late_shares shares before after sink later statuses.SinkFault reports = tt
late_shares shares before after sink later (statuses.RestartsSpent phases.Replay job bad) reports = tt
late_shares shares before after sink later (statuses.StaleLimit phases.Replay) reports = tt
late_shares shares before after sink later statuses.Memory reports = tt
late_shares shares before after sink later _ reports = absurd reports
