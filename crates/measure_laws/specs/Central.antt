-- The lines of `central` that stand in a measure, too.
use Rattle.std.specs.Prelude.{◌≡◌, ℕ, List, ◌++◌}
use Rattle.count_sketch.specs.Counters.{Item}
use Rattle.mon_call.specs.declared.setting.Setting.{Setting}
use Rattle.mon_central.specs.Central.{central_view}
use Rattle.measure_answers.specs.Text.{packets_of}
use Rattle.pcap_reader.specs.Trace.{Record}
use Rattle.pcap_reader.specs.declared.header.Header.{Header}
use Rattle.routed_trace.specs.Routed.{items_in}
use Rattle.sketch_merge.specs.Merged.{View}
use Rattle.topology.specs.Topology.{Topo}

-- the same numbers with a heap of 0, with which `central` keeps every live key
abbrev pub all_kept : Setting → Setting
all_kept setting = record {
  seed = setting.seed;
  levels = setting.levels;
  rows = setting.rows;
  width = setting.width;
  heap = 0;
  division = setting.division;
  heavy = setting.heavy;
}

-- the items of an epoch of a trace of these records
abbrev pub epoch_items : Setting → Topo → Header → List Record → ℕ → List Item
epoch_items setting topo header members epoch = items_in epoch (packets_of setting topo header members)

-- what `central` keeps of an epoch with every live key
abbrev pub central_at : Setting → Topo → Header → List Record → ℕ → View
central_at setting topo header members epoch =
    central_view (all_kept setting) (epoch_items setting topo header members epoch)

-- lines without some that stand together in them
pub record IsWithout (lines part rest : List ℕ) : Type 0 where
  pub front : List ℕ
  pub back : List ℕ
  pub whole : lines ≡ front ++ (part ++ back)
  pub left : rest ≡ front ++ back
