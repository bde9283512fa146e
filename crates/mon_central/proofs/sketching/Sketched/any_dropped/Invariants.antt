use Rattle.std.proofs.Common.{◌≡◌, List}
use Rattle.count_sketch.specs.Counters.{Item}
use Rattle.sketch_levels.specs.Levels.{Holds}
use Rattle.mon_central.specs.Sketched.{any_mark}
use Rattle.mon_central.proofs.sketching.Sketched.any_dropped.Given as goal

abbrev pub invariant-loop-level : goal.invariant-loop-level
invariant-loop-level l = (items : List Item) → Holds l.self.levels items
    → l.dropped ≡ any_mark l.self.levels.setting items l.level
