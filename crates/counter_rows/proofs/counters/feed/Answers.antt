use Rattle.std.proofs.Common.{arith}
use Rattle.count_sketch.proofs.Shares.{AllUpTo-more}
use Rattle.counter_rows.proofs.counters.feed.Goals as goal

pub loop-key-preserved : goal.loop-key-preserved
loop-key-preserved c = AllUpTo-more _ _ _ (omega arith) (c.feed_one.ensures.bound _ c.loop-key.invariant)
