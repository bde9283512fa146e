-- What a call measures.
use Rattle.std.specs.Prelude.{Option, None, Some}
use Rattle.measure_answers.specs.Replayed.{Contents, contents_of}
use Rattle.mon_call.specs.CrewCall.{CrewCall}
use Rattle.mon_call.specs.declared.setting.Setting.{Setting}
use Rattle.mon_drill.specs.Drill.{made_for}
use Rattle.solve_phase.specs.declared.solving.Solving.{Solving}
use Rattle.mon_command.specs.Asked.{Asked, Alone, Place, Measure, Drill}

-- what is measured: the contents of what is read, the numbers of the sketches, and those of the search
pub record Measures : Type 0 where
  pub contents : Contents
  pub setting : Setting
  pub solving : Solving

-- what the words have measured: files, or the made topology and trace
abbrev pub measured_by : Asked → CrewCall → Option Measures
measured_by (Alone asked) c = None
measured_by (Place topology solving) c = None
measured_by (Measure topology trace setting solving) c =
    Some (record { contents = contents_of c.call.inputs topology trace; setting = setting; solving = solving })
measured_by (Drill packets flows setting solving) c =
    Some (record { contents = made_for setting.seed packets flows; setting = setting; solving = solving })
