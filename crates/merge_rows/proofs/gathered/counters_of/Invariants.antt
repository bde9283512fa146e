use Rattle.std.proofs.Common.{◌≡◌, ◌*◌, length}
use Rattle.count_sketch.specs.Counters.{AllUpTo}
use Rattle.merge_rows.proofs.gathered.counters_of.Given as goal

abbrev pub invariant-loop-level : goal.invariant-loop-level
invariant-loop-level g l =
    AllUpTo l.levels.weight l.counters.items
    × (length l.counters.items ≡ l.level * (l.levels.setting.rows * l.levels.setting.width))
