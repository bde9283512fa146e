-- What is measured is answered as a measure, of files or of what is made.
use Rattle.std.proofs.Common.{◌≡◌, ◌⊎◌, ℕ, List, Result, Ok, Some, subst}
use Rattle.change_report.specs.Form.{Form, Whole, Brief}
use Rattle.crew.specs.Log.{Entry}
use Rattle.measure_answers.specs.Measure.{MeasureAnswers}
use Rattle.measure_told.proofs.Told.{measure_ends, measure_spent, measure_stale}
use Rattle.measure_told.specs.Told.{InPhase, IsToldMeasure}
use Rattle.mon_call.specs.Call.{UnlessMemory}
use Rattle.mon_call.specs.CrewCall.{CrewCall, IsIdle, crew_call_of}
use Rattle.mon_call.specs.Told.{IsSmooth}
use Rattle.mon_call.specs.declared.status.Phase.{Phase}
use Rattle.mon_call.specs.declared.status.Status.{Status}
use Rattle.mon_call.specs.declared.status.Status.TheVariants.{RestartsSpent, StaleLimit}
use Rattle.mon_io.specs.Inputs.{InputState}
use Rattle.mon_place.specs.Told.{IsEnding}
use Rattle.mon_words.specs.declared.usage_fault.UsageFault.{UsageFault}
use Rattle.pcap_reader.specs.Trace.{Record}
use Rattle.pcap_reader.specs.declared.header.Header.{Header}
use Rattle.replay_core.specs.declared.bad.Bad.{Bad}
use Rattle.replay_supervisor.specs.Jobs.{Work}
use Rattle.replay_supervisor.specs.Reading.{stale_in}
use Rattle.solve_phase.specs.Solving.{IsSolving}
use Rattle.solve_phase.specs.Told.{IsOverspent, IsWithinLimits}
use Rattle.topology.specs.Topology.{Topo}
use Rattle.mon_command.specs.Asked.{Asked, Alone, Place, Measure, Drill}
use Rattle.mon_command.specs.Measures.{Measures, measured_by}
use Rattle.mon_command.specs.Outcome.{CrewOutcome}

-- a call with the crew and the sink of this one, over other inputs
abbrev pub over : InputState → InputState → CrewCall → CrewCall
over files files_after c = crew_call_of files files_after c.crew c.crew_after c.call.sink c.call.sink_after

-- A call answers as a measure does, over its own inputs or over others, and is smooth over those where it is smooth; with
-- numbers of the search within their limits unless the crew was asked nothing.
pub record IsMeasure (m : Measures) (c : CrewCall) (status : Status) : Type 0 where
  pub form : Form
  pub files : InputState
  pub files_after : InputState
  pub limits : IsIdle c ⊎ IsSolving m.solving
  pub smooth : IsSmooth c.call → IsSmooth (over files files_after c).call
  pub answers : MeasureAnswers form m.contents m.setting m.solving (over files files_after c) status

as_asked : (m n : Measures) (c : CrewCall) (status : Status) → Some m ≡ Some n → IsMeasure m c status
    → IsMeasure n c status
as_asked m n c status same is = subst (λ (some : Measures). IsMeasure some c status) (cc) is

pub is_measure : (before after : List (List ℕ) → Type 0) (asked : Asked) (m : Measures) (c : CrewCall) (status : Status)
    → measured_by asked c ≡ Some m → CrewOutcome before after (Ok asked) c status → IsMeasure m c status
is_measure before after (Alone asked) m c status same outcome = absurd (cc)
is_measure before after (Place topology solving) m c status same outcome = absurd (cc)
is_measure before after (Measure topology trace setting solving) m c status same measured =
    as_asked _ m c status same (record {
      form = Whole;
      files = c.call.inputs;
      files_after = c.call.inputs_after;
      limits = measured.limits;
      smooth = λ smooth. smooth;
      answers = measured.answers;
    })
is_measure before after (Drill packets flows setting solving) m c status same drilled =
    as_asked _ m c status same (record {
      form = Brief;
      files = drilled.drills.files;
      files_after = drilled.drills.files_after;
      limits = drilled.limits;
      smooth = λ smooth. record { inputs = drilled.drills.calm; sink = smooth.sink };
      answers = drilled.drills.answers;
    })

-- what is told of a call is told of the measure in it
pub told_over : (m : Measures) (c : CrewCall) (topo : Topo) (header : Header) (members : List Record) (part : List Entry)
    (status : Status) (is : IsMeasure m c status)
    → IsToldMeasure m.contents m.setting m.solving c topo header members part
    → IsToldMeasure m.contents m.setting m.solving (over is.files is.files_after c) topo header members part
told_over m c topo header members part status is told = record {
  smooth = is.smooth told.smooth;
  work = told.work;
  log = record { log = told.log.log; before = told.log.before; after = told.log.after };
}

module _ (before after : List (List ℕ) → Type 0) (read : Result Asked UsageFault) (asked : Asked) (m : Measures)
    (c : CrewCall) (topo : Topo) (header : Header) (members : List Record) (part : List Entry) (status : Status)
    (outcome : CrewOutcome before after read c status)
    (taken : read ≡ Ok asked)
    (same : measured_by asked c ≡ Some m)
    (told : IsToldMeasure m.contents m.setting m.solving c topo header members part)
  where
    measure : IsMeasure m c status
    measure = is_measure before after asked m c status same
        (subst (λ (r : Result Asked UsageFault). CrewOutcome before after r c status) taken outcome)

    pub command_ends : ((phase : Phase) (work : Work) (entries : List Entry)
        → InPhase m.setting m.solving topo header members part phase work entries
        → IsWithinLimits m.solving.restarts work entries)
        → IsEnding topo.problem m.solving.nodes status
    command_ends within =
        measure_ends measure.form m.contents m.setting m.solving (over measure.files measure.files_after c) topo header
        members part (told_over m c topo header members part status measure told) status within measure.answers

    pub command_spent : (phase : Phase) (work : Work) (entries : List Entry) (job : ℕ) (bad : Bad)
        → InPhase m.setting m.solving topo header members part phase work entries
        → IsOverspent m.solving.restarts work entries job bad → UnlessMemory (RestartsSpent phase job bad) status
    command_spent phase work entries job bad inside much =
        measure_spent measure.form m.contents m.setting m.solving (over measure.files measure.files_after c) topo header
        members part (told_over m c topo header members part status measure told) phase work entries job bad status inside
        much measure.answers

    pub command_stale : (phase : Phase) (work : Work) (entries : List Entry)
        → InPhase m.setting m.solving topo header members part phase work entries
        → stale_in work entries ≡ 4096 → UnlessMemory (StaleLimit phase) status
    command_stale phase work entries inside full =
        measure_stale measure.form m.contents m.setting m.solving (over measure.files measure.files_after c) topo header
        members part (told_over m c topo header members part status measure told) phase work entries status inside full
        measure.answers
