-- What a report says beside the sketches of the epochs.
use Rattle.std.specs.Prelude.{◌≡◌, ◌≤◌, ◌^◌, ℕ, ℤ, Bool, List, All, IsTrue, length, slice_index, slice_index_or, if◌then◌else◌}
use Rattle.hash_family.specs.Setting.{Setting}
use Rattle.count_sketch.specs.Counters.{AllUpTo}
use Rattle.bound_certificate.specs.Placement.{fits}
use Rattle.topology.specs.Topology.{Topo}
use Rattle.sketch_merge.specs.Merged.{HaveUpTo, View}
use Rattle.change_report.specs.Change.{key_limit}
use Rattle.change_report.specs.Form.{Form, Whole, Brief}
use Rattle.measure_report.specs.Report.{report_text}
use Rattle.measure_report.specs.declared.counts.Counts.{Counts}

-- which lines are written: the few, or all
abbrev pub form_of : Bool → Form
form_of brief = if brief then Brief else Whole

-- the lines that are written, the topology, the numbers of the sketch, those of the trace, the switch of each path, the
-- bound below the cost of every placement, and the thousandths of a heavy key
pub record Reported : Type 0 where
  pub form : Form
  pub topo : Topo
  pub setting : Setting
  pub counts : Counts
  pub placement : List ℕ
  pub bound : ℤ
  pub heavy : ℕ

-- the placement fits, there are 1 to 8 epochs, and a heavy key has at most all
pub record IsReported (run : Reported) : Type 0 where
  pub fits : IsTrue (fits run.topo.problem run.placement)
  pub some : 1 ≤ run.counts.epochs
  pub few : run.counts.epochs ≤ 8
  pub heavy : run.heavy ≤ 1000

-- the packets of an epoch
abbrev pub packets_in : Reported → ℕ → ℕ
packets_in run epoch = slice_index run.counts.epoch_packets epoch

-- the sketch of an epoch, of those of all, and another where there is none
abbrev pub view_in : List View → View → ℕ → View
view_in views other epoch = slice_index_or views epoch other

-- the text, of the sketch of each epoch
abbrev pub run_text : Reported → (ℕ → View) → List ℕ
run_text run view =
    report_text run.form run.topo run.setting run.counts.bytes run.heavy run.counts.packets run.counts.keyed
    run.counts.routed run.counts.epochs (packets_in run) run.placement run.bound view

-- a sketch of a setting, of which a difference can be made
pub record IsEpoch (setting : Setting) (view : View) : Type 0 where
  pub shape : view.setting ≡ setting
  pub small : All (AllUpTo (2 ^ 44)) view.counters
  pub few : HaveUpTo key_limit view.keys

-- the sketches of the epochs of a run
pub record AreEpochs (run : Reported) (views : List View) : Type 0 where
  pub number : length views ≡ run.counts.epochs
  pub each : All (IsEpoch run.setting) views
