use Rattle.std.proofs.Common.{◌≡◌, ◌*◌, length}
use Rattle.count_sketch.specs.Counters.{AllUpTo}
use Rattle.mon_central.specs.Sketched.{counters_up_to}
use Rattle.mon_central.proofs.sketching.Sketched.counters.Given as goal

abbrev pub invariant-loop-level : goal.invariant-loop-level
invariant-loop-level l =
    (l.counters.items ≡ counters_up_to l.self.levels l.level)
    × AllUpTo l.self.levels.weight l.counters.items
    × (length l.counters.items ≡ l.level * (l.self.levels.setting.rows * l.self.levels.setting.width))
