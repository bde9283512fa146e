use Rattle.std.proofs.Common.{◌≡◌, List, map}
use Rattle.std.specs.List.{range_with_len}
use Rattle.count_sketch.specs.Counters.{Item}
use Rattle.mon_central.specs.Central.{central_view, level_count}
use Rattle.mon_central.specs.Sketched.{Sketches}
use Rattle.mon_central.proofs.sketching.Sketched.level_counts.Given as goal

abbrev pub invariant-loop-level : goal.invariant-loop-level
invariant-loop-level l = (items : List Item) → Sketches l.setting l.self items → l.merged ≡ central_view l.setting items
    → l.counts.items ≡ map (level_count l.setting items) (range_with_len 0 l.level)
