-- What `place` answers, by how its search ended.
use Rattle.std.proofs.Common.{ℕ, List, [], ◌∷◌, Option, Err, refl, sym, subst, inl, inr}
use Rattle.bound_certificate.specs.Meaning.{Shows}
use Rattle.bound_certificate.specs.Problem.{Problem}
use Rattle.bound_certificate.specs.declared.outcome.Outcome.{Outcome}
use Rattle.bound_certificate.specs.declared.outcome.Outcome.TheVariants as outcomes
use Rattle.bound_certificate.specs.declared.verdict.Verdict.{Verdict}
use Rattle.mon_io.specs.Inputs.{Picked}
use Rattle.mon_io.specs.Sink.{Grew}
use Rattle.mon_call.specs.Call.{IsSilent, Picks}
use Rattle.mon_call.specs.CrewCall.{CrewCall, IsIdle}
use Rattle.mon_call.specs.Topology.{ReadsTopology, SpellTopology}
use Rattle.mon_call.specs.declared.status.Input.TheVariants as inputs
use Rattle.mon_call.specs.declared.status.Phase.TheVariants as phases
use Rattle.mon_call.specs.declared.status.Status.{Status}
use Rattle.mon_call.specs.declared.status.Status.TheVariants as statuses
use Rattle.outcome_report.specs.Outcome.{FitsWherePlaced}
use Rattle.replay_supervisor.specs.declared.stop.Stop.{Stop}
use Rattle.replay_supervisor.specs.declared.stop.Stop.TheVariants as stops
use Rattle.solve_phase.specs.Phase.{Solves}
use Rattle.solve_phase.specs.declared.solving.Solving.{Solving}
use Rattle.topology.specs.Topology.{Topo}
use Rattle.mon_place.specs.Place.{IsOutcome, PlaceAnswers, Reports, place_reads, status_of, stop_status}

-- a placement that is shown fits
pub shown_fits : (problem : Problem) (nodes : ℕ) (outcome : Outcome) (verdict : Verdict)
    → Shows problem nodes outcome verdict → FitsWherePlaced problem outcome
shown_fits problem nodes (outcomes.Placed placement tree) verdict shows = shows.placed
shown_fits problem nodes (outcomes.Infeasible tree) verdict shows = tt
shown_fits problem nodes (outcomes.Spent tree) verdict shows = tt

-- a text of an outcome that was written, under the status of the outcome
wrote : (contents : Option (List ℕ)) (solving : Solving) (c : CrewCall) (outcome : Outcome) (text : List ℕ)
    → IsOutcome contents solving c outcome text → Grew c.call.sink.written c.call.sink_after.written text
    → PlaceAnswers contents solving c (status_of solving.nodes outcome)
wrote contents solving c (outcomes.Placed placement tree) text is grew =
    record { text = text; is_due = (placement, tree, is); grew = grew }
wrote contents solving c (outcomes.Infeasible tree) text is grew =
    record { text = text; is_due = (tree, is); grew = grew }
wrote contents solving c (outcomes.Spent tree) text is grew =
    (refl, record { text = text; is_due = (tree, is); grew = grew })

-- a search that ended with an outcome, whose text was reported
pub reported : (contents : Option (List ℕ)) (solving : Solving) (c : CrewCall) (outcome : Outcome) (text : List ℕ)
    (status : Status)
    → IsOutcome contents solving c outcome text
    → Reports text (status_of solving.nodes outcome) c.call.sink c.call.sink_after status
    → PlaceAnswers contents solving c status
reported contents solving c outcome text status is (inl (same, grew)) =
    subst (λ (s : Status). PlaceAnswers contents solving c s) (sym same) (wrote contents solving c outcome text is grew)
reported contents solving c outcome text status is (inr (inl (same, (rose, part)))) =
    subst (λ (s : Status). PlaceAnswers contents solving c s) (sym same)
    (rose, record { text = text; is_due = (outcome, is); part = part })
reported contents solving c outcome text status is (inr (inr (same, silent))) =
    subst (λ (s : Status). PlaceAnswers contents solving c s) (sym same) (inr (inr (outcome, is.has)), silent)

-- a search that was given up
pub given_up : (contents : Option (List ℕ)) (solving : Solving) (c : CrewCall) (topo : Topo) (stop : Stop)
    → SpellTopology contents topo → Solves topo.problem solving c.crew c.crew_after (Err stop) → IsSilent c.call
    → PlaceAnswers contents solving c (stop_status phases.Solve stop)
given_up contents solving c topo (stops.RestartsSpent job bad) spells ends silent =
    (record { topo = topo; spells = spells; ends = ends }, silent)
given_up contents solving c topo stops.StaleLimit spells ends silent =
    (record { topo = topo; spells = spells; ends = ends }, silent)
given_up contents solving c topo stops.Memory spells (inl idle) silent = (inl idle, silent)
given_up contents solving c topo stops.Memory spells (inr ends) silent =
    (inr (inl (record { topo = topo; spells = spells; ends = ends })), silent)

-- a topology that is not read or is refused
pub unread : (contents : Option (List ℕ)) (solving : Solving) (c : CrewCall) (status : Status) → IsIdle c
    → IsSilent c.call → ReadsTopology contents c.call.inputs c.call.inputs_after (Err status)
    → PlaceAnswers contents solving c status
unread contents solving c (statuses.ReadFault inputs.Topology) idle silent reads = (reads.0, reads.1, idle, silent)
unread contents solving c (statuses.Topology fault) idle silent reads = (reads, idle, silent)
unread contents solving c statuses.Memory idle silent reads = (inl idle, silent)
unread contents solving c _ idle silent reads = absurd reads

-- the topology is picked, and nothing else
pub picks_topology : (before after : List (List ℕ) → Type 0) (contents : Option (List ℕ)) (name : List ℕ)
    (solving : Solving) (c : CrewCall) (status : Status)
    → PlaceAnswers contents solving c status → Picked before after (name ∷ [])
    → Picks before after (place_reads name) status
picks_topology before after contents name solving c statuses.Done answers picked = picked
picks_topology before after contents name solving c statuses.Infeasible answers picked = picked
picks_topology before after contents name solving c (statuses.SearchBudget nodes) answers picked = picked
picks_topology before after contents name solving c statuses.SinkFault answers picked = picked
picks_topology before after contents name solving c (statuses.ReadFault inputs.Topology) answers picked = picked
picks_topology before after contents name solving c (statuses.Topology fault) answers picked = picked
picks_topology before after contents name solving c (statuses.RestartsSpent phases.Solve job bad) answers
    picked = picked
picks_topology before after contents name solving c (statuses.StaleLimit phases.Solve) answers picked = picked
picks_topology before after contents name solving c statuses.Memory answers picked =
    record { front = name ∷ []; back = []; parts = refl; picked = picked }
picks_topology before after contents name solving c _ answers picked = absurd answers
