use Rattle.std.proofs.Common.{◌*◌, ◌^◌}
use Rattle.count_sketch.specs.Counters.{AllUpTo}
use Rattle.counter_rows.proofs.counters.feed.Given as goal

abbrev pub invariant-loop-key : goal.invariant-loop-key
invariant-loop-key l = AllUpTo (l.key-index * 2 ^ 32) l.sketch.counters
