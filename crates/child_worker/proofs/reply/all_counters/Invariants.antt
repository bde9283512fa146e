use Rattle.std.proofs.Common.{◌≡◌, ◌*◌, List, length}
use Rattle.std.specs.List.{flat_map, range_with_len}
use Rattle.count_sketch.specs.Counters.{AllUpTo, Item}
use Rattle.sketch_levels.specs.Levels.{Holds}
use Rattle.child_worker.specs.Replies.{level_counters}
use Rattle.child_worker.proofs.reply.all_counters.Given as goal

abbrev pub invariant-loop-level : goal.invariant-loop-level
invariant-loop-level l =
    ((items : List Item) → Holds l.levels items
    → l.counters.items ≡ flat_map (level_counters l.levels.setting items) (range_with_len 0 l.level))
    × (length l.counters.items ≡ l.level * l.levels.setting.rows * l.levels.setting.width)
    × AllUpTo l.levels.weight l.counters.items
