use Rattle.std.proofs.Common.{◌^◌, ◌-◌, ◌≤◌, ◌+ℤ◌, length, drop, unsigned_abs, arith}
use Rattle.std.proofs.lemmas.List.Elements.{All-take}
use Rattle.lane_kernels.proofs.Joins.{joined_chunk, joined_rest, rest_small}
use Rattle.lane_kernels.proofs.sums.add_into.Goals as goal

pub add_eight-requires-clause-small : goal.add_eight-requires-clause-small
add_eight-requires-clause-small c =
    All-take (λ x. unsigned_abs x ≤ 2 ^ 62 - 1) 8 (drop c.loop-a.at c.loop-a.a)
    (rest_small ◌+ℤ◌ c.args.a.now c.args.b.now c.loop-a.a c.loop-a.at (2 ^ 62 - 1)
    c.loop-a.invariant.1 c.requires.small)

pub loop-a-preserved : goal.loop-a-preserved
loop-a-preserved c = (
  omega arith,
  joined_chunk ◌+ℤ◌ c.args.a.now c.args.b.now c.loop-a.a c.loop-a.at 8 c.requires.shape (omega arith)
      c.loop-a.invariant.1 _ c.add_eight.ensures,
)

pub add_one_by_one-requires-clause-small : goal.add_one_by_one-requires-clause-small
add_one_by_one-requires-clause-small c =
    All-take (λ x. unsigned_abs x ≤ 2 ^ 62 - 1) (length c.loop-a.a - c.loop-a.at) (drop c.loop-a.at c.loop-a.a)
    (rest_small ◌+ℤ◌ c.args.a.now c.args.b.now c.loop-a.a c.loop-a.at (2 ^ 62 - 1)
    c.loop-a.invariant.1 c.requires.small)

pub returns : goal.returns
returns c = record {
  value = joined_rest ◌+ℤ◌ c.args.a.now c.args.b.now c.loop-a.a c.add_one_by_one.new.a c.loop-a.at c.requires.shape
      (omega arith) c.loop-a.invariant.1 c.add_one_by_one.ensures;
}
