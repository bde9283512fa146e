-- What a measure leaves of the crew.
use Rattle.std.proofs.Common.{◌≡◌, ℕ, ◌++◌, false, inl, inr}
use Rattle.change_report.specs.Form.{Form}
use Rattle.mon_call.specs.Call.{Keeps}
use Rattle.mon_call.specs.CrewCall.{CrewCall, KeepsCrew}
use Rattle.mon_call.specs.declared.setting.Setting.{Setting}
use Rattle.mon_call.specs.declared.status.Input.TheVariants as inputs
use Rattle.mon_call.specs.declared.status.Phase.TheVariants as phases
use Rattle.mon_call.specs.declared.status.Status.{Status}
use Rattle.mon_call.specs.declared.status.Status.TheVariants as statuses
use Rattle.mon_place.proofs.Kept.{asked, keeps_crew, stayed}
use Rattle.solve_phase.specs.declared.solving.Solving.{Solving}
use Rattle.measure_answers.specs.Measure.{MeasureAnswers}
use Rattle.measure_answers.specs.Replayed.{Contents, HasReplies}

module _ (form : Form) (contents : Contents) (setting : Setting) (solving : Solving) (c : CrewCall) (keeps : Keeps c.call)
    (none_out : (ticket : ℕ) → c.crew.is_out ticket ≡ false)
  where
    replied : HasReplies contents setting solving c → KeepsCrew c
    replied has = asked c (has.replay ++ has.placed.solve) keeps has.grows

    pub keeps_measure : (status : Status) → MeasureAnswers form contents setting solving c status → KeepsCrew c
    keeps_measure statuses.Done answers = replied answers.is_due.has
    keeps_measure statuses.Infeasible answers =
        keeps_crew contents.topology solving c statuses.Infeasible keeps none_out answers.0
    keeps_measure (statuses.SearchBudget nodes) answers =
        keeps_crew contents.topology solving c (statuses.SearchBudget nodes) keeps none_out answers.0
    keeps_measure statuses.SinkFault (rose, inl wrote) = replied wrote.is_due.has
    keeps_measure statuses.SinkFault (rose, inr wrote) = elim wrote.is_due.0 [
      | inl found ↦ asked c found.1.has.found.solve keeps found.1.has.found.grows
      | inr found ↦ asked c found.1.has.found.solve keeps found.1.has.found.grows
    ]
    keeps_measure (statuses.ReadFault inputs.Topology) answers =
        keeps_crew contents.topology solving c (statuses.ReadFault inputs.Topology) keeps none_out answers
    keeps_measure (statuses.ReadFault inputs.Trace) answers = stayed c keeps none_out answers.3
    keeps_measure (statuses.Topology fault) answers =
        keeps_crew contents.topology solving c (statuses.Topology fault) keeps none_out answers
    keeps_measure (statuses.Trace fault) answers = stayed c keeps none_out answers.2
    keeps_measure (statuses.RestartsSpent phases.Solve job bad) answers =
        keeps_crew contents.topology solving c (statuses.RestartsSpent phases.Solve job bad) keeps none_out answers.0
    keeps_measure (statuses.RestartsSpent phases.Replay job bad) answers =
        asked c (answers.0.replay ++ answers.0.placed.solve) keeps answers.0.grows
    keeps_measure (statuses.StaleLimit phases.Solve) answers =
        keeps_crew contents.topology solving c (statuses.StaleLimit phases.Solve) keeps none_out answers.0
    keeps_measure (statuses.StaleLimit phases.Replay) answers =
        asked c (answers.0.replay ++ answers.0.placed.solve) keeps answers.0.grows
    keeps_measure statuses.Memory (inl answers) =
        keeps_crew contents.topology solving c statuses.Memory keeps none_out answers
    keeps_measure statuses.Memory (inr (inl given, silent)) =
        asked c (given.replay ++ given.placed.solve) keeps given.grows
    keeps_measure statuses.Memory (inr (inr has, silent)) = replied has
    keeps_measure _ answers = absurd answers
