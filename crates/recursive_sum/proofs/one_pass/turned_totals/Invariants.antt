use Rattle.std.proofs.Common.{◌≡◌, ◌*◌, ◌≤◌, ◌^◌, take, unsigned_abs}
use Rattle.count_sketch.specs.Counters.{int_sum_by}
use Rattle.recursive_sum.specs.Sum.{turned_at}
use Rattle.recursive_sum.specs.declared.measure.G.TheVariants.{One, Value}
use Rattle.recursive_sum.proofs.one_pass.turned_totals.Given as goal

abbrev pub invariant-loop-key : goal.invariant-loop-key
invariant-loop-key l = record {
  cardinality : l.cardinality ≡ int_sum_by (turned_at l.family One l.merged l.level) (take l.key-index l.keys);
  weight : l.weight ≡ int_sum_by (turned_at l.family Value l.merged l.level) (take l.key-index l.keys);
  most_keys : unsigned_abs l.cardinality ≤ l.key-index * 2 ^ 45;
  most_weight : unsigned_abs l.weight ≤ l.key-index * 2 ^ 45;
}
