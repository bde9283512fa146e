use Rattle.std.proofs.Common.{◌≡◌, List, length, map}
use Rattle.std.specs.List.{range_with_len}
use Rattle.std.specs.Prelude.{All}
use Rattle.count_sketch.specs.Counters.{Item}
use Rattle.reply_format.specs.Reply.{IsHeap}
use Rattle.sketch_levels.specs.Levels.{Holds}
use Rattle.child_worker.specs.Replies.{level_heap}
use Rattle.child_worker.proofs.reply.all_heaps.Given as goal

abbrev pub invariant-loop-level : goal.invariant-loop-level
invariant-loop-level l =
    ((items : List Item) → Holds l.levels items
    → l.heaps ≡ map (level_heap l.levels.setting items) (range_with_len 0 l.level))
    × (length l.heaps ≡ l.level)
    × ((items : List Item) → Holds l.levels items → All (IsHeap l.levels.setting.heap) l.heaps)
