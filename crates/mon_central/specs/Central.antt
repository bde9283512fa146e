-- The text of `central`.
use Rattle.std.specs.Prelude.{ℤ, pos, ℕ, ◌+◌, ◌-◌, ◌==◌, ◌&&◌, not, max, Bool, List, [], ◌++◌, length, map, count_by, Option, codes, if◌then◌else◌}
use Rattle.std.specs.List.{flat_map, list_any, range_with_len}
use Rattle.std.specs.Ordering.{int_eq}
use Rattle.hash_family.specs.Setting as sketch
use Rattle.count_sketch.specs.Counters.{Item, counters_of}
use Rattle.sketch_levels.specs.Items.{live_items, weight_of, distinct_keys}
use Rattle.sketch_levels.specs.Kept as levels
use Rattle.sketch_merge.specs.Merged.{View}
use Rattle.change_report.specs.Block.{block_text}
use Rattle.change_report.specs.Change.{change_lines}
use Rattle.change_report.specs.Head.{counts_line, sketch_line}
use Rattle.change_report.specs.declared.level_count.LevelCount.{LevelCount}
use Rattle.pcap_reader.specs.declared.header.Header.{Header}
use Rattle.pcap_reader.specs.Trace.{Record}
use Rattle.topology.specs.Topology.{Topo}
use Rattle.flow_keys.specs.declared.routed.Routed.{Routed}
use Rattle.routed_trace.specs.Routed.{items_in, keyed_in, number_of_epochs, routed_of}
use Rattle.mon_call.specs.declared.setting.Setting.{Setting}

-- the setting of the levels: where every live key is kept beside them, their heaps have one place
abbrev pub levels_setting : Setting → sketch.Setting
levels_setting setting = record {
  levels = setting.levels;
  rows = setting.rows;
  width = setting.width;
  heap = max setting.heap 1;
  seed = setting.seed;
}

-- the keys that are kept at a level, of the items that are live there
unfoldable pub kept_keys : Setting → ℕ → List Item → List (List ℕ)
kept_keys setting level live =
    if setting.heap == 0 then distinct_keys live else levels.kept_keys (levels_setting setting) level live

-- how many counters aren't 0
abbrev pub nonzero : List ℤ → ℕ
nonzero counters = count_by (λ counter. not (int_eq counter (pos 0))) counters

-- the numbers of a level, of the items that are live there
unfoldable pub level_count : Setting → List Item → ℕ → LevelCount
level_count setting items level =
    let live = live_items setting.seed level items in record {
      packets = length live;
      weight = weight_of live;
      keys = length (kept_keys setting level live);
      nonzero = nonzero (counters_of setting.seed level setting.rows setting.width live);
    }

-- the numbers of all levels, from 0 on
abbrev pub level_counts : Setting → List Item → List LevelCount
level_counts setting items = map (level_count setting items) (range_with_len 0 (setting.levels + 1))

-- the mark of a level: its heap dropped a key
abbrev pub mark_at : Setting → List Item → ℕ → Bool
mark_at setting items level = levels.is_dropped (levels_setting setting) (live_items setting.seed level items)

-- a heap dropped a key
unfoldable pub drops : Setting → List Item → Bool
drops setting items = not (setting.heap == 0) && list_any (λ mark. mark)
    (map (mark_at setting items) (range_with_len 0 (setting.levels + 1)))

-- the numbers of the sketch as its line says them, where a heap of 0 keeps every live key
abbrev pub line_setting : Setting → sketch.Setting
line_setting setting = record {
  levels = setting.levels;
  rows = setting.rows;
  width = setting.width;
  heap = setting.heap;
  seed = setting.seed;
}

-- the counters and keys of each level, of the items that are live there, and the mark of the heaps
unfoldable pub central_view : Setting → List Item → View
central_view setting items = record {
  setting = levels_setting setting;
  weight = weight_of items;
  counters = map (λ level. counters_of setting.seed level setting.rows setting.width
      (live_items setting.seed level items)) (range_with_len 0 (setting.levels + 1));
  keys = map (λ level. kept_keys setting level (live_items setting.seed level items))
      (range_with_len 0 (setting.levels + 1));
  dropped = drops setting items;
}

-- the lines of an epoch of these items
unfoldable pub block_of : Setting → ℕ → List Item → List ℕ
block_of setting epoch items =
    block_text setting.seed epoch (length items) (central_view setting items) (level_counts setting items) setting.heavy

-- the lines of the change to an epoch with these items from the one before
unfoldable pub change_of : Setting → ℕ → List Item → List Item → List ℕ
change_of setting epoch before items =
    change_lines setting.seed epoch (central_view setting before) (central_view setting items) setting.heavy

-- the lines of an epoch, and behind those of the first the lines of the change to it
unfoldable pub epoch_lines : Setting → List Routed → ℕ → List ℕ
epoch_lines setting routed epoch =
    block_of setting epoch (items_in epoch routed)
    ++ (if epoch == 0 then [] else change_of setting epoch (items_in (epoch - 1) routed) (items_in epoch routed))

-- the lines of so many epochs
abbrev pub epochs_lines : Setting → List Routed → ℕ → List ℕ
epochs_lines setting routed number = flat_map (epoch_lines setting routed) (range_with_len 0 number)

-- the text of the numbers of packets, of those that have a key and of those that have a path, and of the lines of epochs
unfoldable pub lines_of : Setting → ℕ → ℕ → ℕ → List ℕ → List ℕ
lines_of setting packets keyed routed epochs =
    codes "univmon central 1\n" ++ (counts_line packets keyed routed
    ++ (sketch_line (line_setting setting) setting.division.bytes ++ (epochs ++ codes "end\n")))

-- the text of a trace
unfoldable pub central_text : Setting → Option Topo → Header → List Record → List ℕ
central_text setting topology header members =
    let routed = routed_of setting.division topology header members in
    lines_of setting (length members) (keyed_in header members) (length routed)
    (epochs_lines setting routed (number_of_epochs setting.division.seconds header members))
