use Rattle.std.proofs.Common.{arith}
use Rattle.count_sketch.proofs.Shares.{AllUpTo-more}
use Rattle.counter_rows.proofs.counters.feed_one.Goals as goal

pub returns-clause-bound : goal.returns-clause-bound
returns-clause-bound c = λ n all. AllUpTo-more _ _ _ (omega arith) (c.update.ensures.bound n all)
