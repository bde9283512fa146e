-- Drills whose files are told fit.
use Rattle.std.proofs.Common.{◌≡◌, ℕ, Result, Ok, Err}
use Rattle.crew.specs.Crew.{CrewState}
use Rattle.maker_laws.proofs.Topologies.{accepted}
use Rattle.mon_call.specs.declared.setting.Setting.{Setting}
use Rattle.mon_call.specs.declared.status.Input.{Input}
use Rattle.mon_call.specs.declared.status.Input.TheVariants as inputs
use Rattle.mon_call.specs.declared.status.Status.TheVariants.{ReadFault, Topology}
use Rattle.mon_drill.specs.Drill.{Drills}
use Rattle.mon_io.specs.Sink.{SinkState}
use Rattle.solve_phase.specs.declared.solving.Solving.{Solving}
use Rattle.topology.specs.declared.fault.TopologyFault.{TopologyFault}

-- no answer is both
no_both : {T E : Type 0} (x : T) (e : E) (r : Result T E) → r ≡ Ok x → r ≡ Err e → ⊥
no_both x e r ok err = cc

pub fit : (packets flows : ℕ) (setting : Setting) (solving : Solving) (crew crew_after : CrewState)
    (sink sink_after : SinkState) (fault : TopologyFault)
    → Drills packets flows setting solving crew crew_after sink sink_after (Topology fault) → ⊥
fit packets flows setting solving crew crew_after sink sink_after fault d =
    no_both _ fault _ accepted d.answers.0

pub read : (packets flows : ℕ) (setting : Setting) (solving : Solving) (crew crew_after : CrewState)
    (sink sink_after : SinkState) (input : Input)
    → Drills packets flows setting solving crew crew_after sink sink_after (ReadFault input) → ⊥
read packets flows setting solving crew crew_after sink sink_after inputs.Topology d = d.calm d.answers.0
read packets flows setting solving crew crew_after sink sink_after inputs.Trace d = d.calm d.answers.0
read packets flows setting solving crew crew_after sink sink_after inputs.Tree d = d.answers
read packets flows setting solving crew crew_after sink sink_after inputs.Job d = d.answers
