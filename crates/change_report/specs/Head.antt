-- The lines of the head of a report: of the packets, and of the numbers of the sketch.
use Rattle.std.specs.Prelude.{ℕ, ◌==◌, Bool, List, ◌++◌, codes, decimal, if◌then◌else◌}
use Rattle.hash_family.specs.Setting.{Setting}
use Rattle.change_report.specs.declared.head.SketchNumbers.{SketchNumbers}

-- the numbers as a setting, whose heap is 0 where every key is kept
abbrev pub setting_in : SketchNumbers → Setting
setting_in numbers = record {
  levels = numbers.levels;
  rows = numbers.rows;
  width = numbers.width;
  heap = numbers.heap;
  seed = numbers.seed;
}

-- the line of the packets: how many there are, how many have a key, and how many have a path
unfoldable pub counts_line : ℕ → ℕ → ℕ → List ℕ
counts_line packets keyed routed =
    codes "packets " ++ (decimal packets ++ (codes " keyed "
    ++ (decimal keyed ++ (codes " routed " ++ (decimal routed ++ codes "\n")))))

-- how many keys a level keeps
unfoldable pub heap_text : ℕ → List ℕ
heap_text heap = if heap == 0 then codes "all" else decimal heap

-- what a packet counts
unfoldable pub weight_word : Bool → List ℕ
weight_word bytes = if bytes then codes "bytes" else codes "packets"

-- the numbers of the counters
unfoldable pub counter_words : Setting → List ℕ
counter_words setting =
    codes "sketch seed " ++ (decimal setting.seed ++ (codes " levels " ++ (decimal setting.levels
    ++ (codes " rows " ++ (decimal setting.rows ++ (codes " width " ++ decimal setting.width))))))

-- how many keys a level keeps, and what a packet counts
unfoldable pub kept_words : ℕ → Bool → List ℕ
kept_words heap bytes =
    codes " heap " ++ (heap_text heap ++ (codes " weight " ++ (weight_word bytes ++ codes "\n")))

-- the line of the sketch's numbers, and of what a packet counts
unfoldable pub sketch_line : Setting → Bool → List ℕ
sketch_line setting bytes = counter_words setting ++ kept_words setting.heap bytes
