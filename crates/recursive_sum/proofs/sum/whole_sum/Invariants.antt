use Rattle.std.proofs.Common.{◌≡◌, ◌*◌, ◌≤◌, ◌^◌, take, unsigned_abs}
use Rattle.count_sketch.specs.Counters.{int_sum_by}
use Rattle.recursive_sum.specs.Sum.{counts_at}
use Rattle.recursive_sum.proofs.sum.whole_sum.Given as goal

abbrev pub invariant-loop-key : goal.invariant-loop-key
invariant-loop-key l = record {
  value : l.sum ≡ int_sum_by (counts_at l.family l.g l.merged l.level) (take l.key-index l.keys);
  bound : unsigned_abs l.sum ≤ l.key-index * 2 ^ 45;
}
