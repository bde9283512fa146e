-- A drill that wants for memory.
use Rattle.std.proofs.Common.{◌≡◌, ℕ, None, inl, arith}
use Rattle.crew.specs.Crew.{CrewState}
use Rattle.mon_call.specs.declared.setting.Setting.{Setting}
use Rattle.mon_call.specs.declared.status.Status.TheVariants.{Memory}
use Rattle.mon_io.specs.Faults.{Rose}
use Rattle.mon_io.specs.Inputs.{InputState}
use Rattle.mon_io.specs.Sink.{SinkState}
use Rattle.solve_phase.specs.declared.solving.Solving.{Solving}
use Rattle.mon_drill.specs.Drill.{Drills}

-- a count that stays at 0 has not risen
pub stays_calm : Rose 0 0 → ⊥
stays_calm rose = omega (arith, rose)

-- no file
no_files : InputState
no_files = record { contents = λ name. None; rest = None; faults = 0 }

-- nothing was asked of the crew, and nothing written
pub drill_wanting : (packets flows : ℕ) (setting : Setting) (solving : Solving) (crew crew_after : CrewState)
    (sink sink_after : SinkState) → crew_after ≡ crew → sink_after.written ≡ sink.written
    → Drills packets flows setting solving crew crew_after sink sink_after Memory
unfolding no_files
drill_wanting packets flows setting solving crew crew_after sink sink_after idle silent = record {
  files = no_files;
  files_after = no_files;
  calm = stays_calm;
  answers = inl (inl idle, silent);
}
