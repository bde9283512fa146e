-- What `place` leaves of the crew.
use Rattle.std.proofs.Common.{◌≡◌, ℕ, List, Option, false, ◌∙◌, ap, arith, inl, inr}
use Rattle.crew.specs.Crew.{CrewState}
use Rattle.crew.specs.Log.{Entry}
use Rattle.mon_call.specs.Call.{Keeps}
use Rattle.mon_call.specs.CrewCall.{CrewCall, IsIdle, KeepsCrew}
use Rattle.mon_call.specs.declared.status.Input.TheVariants as inputs
use Rattle.mon_call.specs.declared.status.Phase.TheVariants as phases
use Rattle.mon_call.specs.declared.status.Status.{Status}
use Rattle.mon_call.specs.declared.status.Status.TheVariants as statuses
use Rattle.solve_phase.specs.Phase.{Grows}
use Rattle.solve_phase.specs.declared.solving.Solving.{Solving}
use Rattle.mon_place.specs.Place.{PlaceAnswers}

-- a crew that is as it was, and one that was asked
pub stayed : (c : CrewCall) → Keeps c.call → ((ticket : ℕ) → c.crew.is_out ticket ≡ false) → IsIdle c → KeepsCrew c
stayed c keeps none_out idle = record {
  keeps = keeps;
  crew_later = omega (arith, ap (λ (s : CrewState). s.faults) idle);
  issued_later = omega (arith, ap (λ (s : CrewState). s.issued) idle);
  none_out = λ ticket. ap (λ (s : CrewState). s.is_out ticket) idle ∙ none_out ticket;
}

pub asked : (c : CrewCall) (part : List Entry) → Keeps c.call → Grows c.crew c.crew_after part → KeepsCrew c
asked c part keeps grows = record {
  keeps = keeps;
  crew_later = grows.faults;
  issued_later = omega (arith, grows.issued);
  none_out = grows.none_out;
}

pub keeps_crew : (contents : Option (List ℕ)) (solving : Solving) (c : CrewCall) (status : Status) → Keeps c.call
    → ((ticket : ℕ) → c.crew.is_out ticket ≡ false) → PlaceAnswers contents solving c status → KeepsCrew c
keeps_crew contents solving c statuses.Done keeps none_out answers =
    let found = answers.is_due.2.has.found in asked c found.solve keeps found.grows
keeps_crew contents solving c statuses.Infeasible keeps none_out answers =
    let found = answers.is_due.1.has.found in asked c found.solve keeps found.grows
keeps_crew contents solving c (statuses.SearchBudget nodes) keeps none_out answers =
    let found = answers.1.is_due.1.has.found in asked c found.solve keeps found.grows
keeps_crew contents solving c statuses.SinkFault keeps none_out answers =
    let found = answers.1.is_due.1.has.found in asked c found.solve keeps found.grows
keeps_crew contents solving c (statuses.ReadFault inputs.Topology) keeps none_out answers =
    stayed c keeps none_out answers.2
keeps_crew contents solving c (statuses.Topology fault) keeps none_out answers = stayed c keeps none_out answers.1
keeps_crew contents solving c (statuses.RestartsSpent phases.Solve job bad) keeps none_out answers =
    asked c answers.0.ends.solve keeps answers.0.ends.grows
keeps_crew contents solving c (statuses.StaleLimit phases.Solve) keeps none_out answers =
    asked c answers.0.ends.solve keeps answers.0.ends.grows
keeps_crew contents solving c statuses.Memory keeps none_out (inl idle, silent) = stayed c keeps none_out idle
keeps_crew contents solving c statuses.Memory keeps none_out (inr (inl given), silent) =
    asked c given.ends.solve keeps given.ends.grows
keeps_crew contents solving c statuses.Memory keeps none_out (inr (inr (outcome, has)), silent) =
    asked c has.found.solve keeps has.found.grows
keeps_crew contents solving c _ keeps none_out answers = absurd answers
