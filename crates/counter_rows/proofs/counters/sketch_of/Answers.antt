use Rattle.std.proofs.Common.{◌+◌, ◌^◌, arith, rules}
use Rattle.count_sketch.proofs.Shares.{AllUpTo-more}
use Rattle.counter_rows.proofs.counters.sketch_of.Goals as goal

pub feed_one-requires-2 : goal.feed_one-requires-2
feed_one-requires-2 g c = AllUpTo-more (0 + 2 ^ 32) _ _ (omega arith) (c.feed_one.ensures.bound 0 (search rules))

pub returns-clause-small : goal.returns-clause-small
returns-clause-small g c =
    AllUpTo-more (0 + 2 ^ 32 + 2 ^ 32) _ _ (omega arith)
    (c.feed_one-2.ensures.bound (0 + 2 ^ 32) (c.feed_one.ensures.bound 0 (search rules)))
