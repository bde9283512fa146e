-- The text of a measure, from the records of a trace and the merged sketches of its epochs.
use Rattle.std.specs.Prelude.{ℕ, ℤ, List, length, Some}
use Rattle.bound_certificate.specs.Problem.{site_count}
use Rattle.change_report.specs.Form.{Form}
use Rattle.flow_keys.specs.declared.routed.Routed.{Routed}
use Rattle.hash_family.specs.Setting as sketch
use Rattle.measure_report.specs.Report.{report_text}
use Rattle.mon_call.specs.declared.setting.Setting.{Setting}
use Rattle.pcap_reader.specs.Trace.{Record}
use Rattle.pcap_reader.specs.declared.header.Header.{Header}
use Rattle.replay_phase.specs.Phase.{Replaying}
use Rattle.routed_trace.specs.Routed.{items_in, keyed_in, number_of_epochs, routed_of}
use Rattle.sketch_merge.specs.Merged.{View}
use Rattle.solve_phase.specs.declared.solving.Solving.{Solving}
use Rattle.topology.specs.Topology.{Topo}

-- the numbers of a sketch
abbrev pub sketch_setting : Setting → sketch.Setting
sketch_setting setting = record {
  levels = setting.levels;
  rows = setting.rows;
  width = setting.width;
  heap = setting.heap;
  seed = setting.seed;
}

-- the routed packets of a trace of these records
abbrev pub packets_of : Setting → Topo → Header → List Record → List Routed
packets_of setting topo header members = routed_of setting.division (Some topo) header members

-- how many epochs they are in
abbrev pub epochs_of : Setting → Header → List Record → ℕ
epochs_of setting header members = number_of_epochs setting.division.seconds header members

-- whose shares are replayed: those of the topology's switches, by a placement of its paths
abbrev pub replaying_of : Setting → Solving → Topo → Header → List Record → List ℕ → Replaying
replaying_of setting solving topo header members placement = record {
  setting = sketch_setting setting;
  epochs = epochs_of setting header members;
  switches = site_count topo.problem;
  placement = placement;
  routed = packets_of setting topo header members;
  window = solving.window;
  restarts = solving.restarts;
}

-- the text, of the sketch of each epoch
abbrev pub measure_text : Form → Setting → Topo → Header → List Record → List ℕ → ℤ → (ℕ → View) → List ℕ
measure_text form setting topo header members placement bound view =
    report_text form topo (sketch_setting setting) setting.division.bytes setting.heavy (length members)
    (keyed_in header members) (length (packets_of setting topo header members)) (epochs_of setting header members)
    (λ epoch. length (items_in epoch (packets_of setting topo header members))) placement bound view
