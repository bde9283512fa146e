-- What `drill` answers.
use Rattle.std.specs.Prelude.{ℕ, Some}
use Rattle.change_report.specs.Form.{Brief}
use Rattle.crew.specs.Crew.{CrewState}
use Rattle.measure_answers.specs.Measure.{MeasureAnswers}
use Rattle.measure_answers.specs.Replayed.{Contents}
use Rattle.mon_call.specs.CrewCall.{crew_call_of}
use Rattle.mon_call.specs.declared.setting.Setting.{Setting}
use Rattle.mon_call.specs.declared.status.Status.{Status}
use Rattle.mon_io.specs.Faults.{Rose}
use Rattle.mon_io.specs.Inputs.{InputState}
use Rattle.mon_io.specs.Sink.{SinkState}
use Rattle.solve_phase.specs.declared.solving.Solving.{Solving}
use Rattle.trace_maker.specs.Topology.{generated_topology}
use Rattle.trace_maker.specs.Trace.{generated_trace}

-- the made topology, and the made trace of a seed with so many packets of so many flows
abbrev pub made_for : ℕ → ℕ → ℕ → Contents
made_for seed packets flows =
    record { topology = Some generated_topology; trace = Some (generated_trace seed packets flows) }

-- It answers as `measure` does of files in memory that hold the made topology and the made trace, and that never fail,
-- with the few lines.
pub record Drills (packets flows : ℕ) (setting : Setting) (solving : Solving) (crew crew_after : CrewState)
    (sink sink_after : SinkState) (status : Status) : Type 0 where
  pub files : InputState
  pub files_after : InputState
  pub calm : Rose files.faults files_after.faults → ⊥
  pub answers : MeasureAnswers Brief (made_for setting.seed packets flows) setting solving
      (crew_call_of files files_after crew crew_after sink sink_after) status
