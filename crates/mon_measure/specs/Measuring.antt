-- The numbers of a measure within their limits.
use Rattle.std.specs.Prelude.{◌≤◌, IsTrue}
use Rattle.mon_call.specs.Setting.{is_setting}
use Rattle.mon_call.specs.declared.setting.Setting.{Setting}
use Rattle.solve_phase.specs.Solving.{IsSolving}
use Rattle.mon_measure.specs.declared.measuring.Measuring.{Measuring}

-- the numbers of sketches whose heaps have at least one place
pub record IsSketching (setting : Setting) : Type 0 where
  pub range : IsTrue (is_setting setting)
  pub heap : 1 ≤ setting.heap

-- those, and the numbers of a search
pub record IsMeasuring (measuring : Measuring) : Type 0 where
  pub sketching : IsSketching measuring.setting
  pub solving : IsSolving measuring.solving
