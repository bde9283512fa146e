use Rattle.recursive_sum.specs.declared.measure.G.TheVariants.{One, Value}
use Rattle.recursive_sum.proofs.Descent.{IsSumAt}
use Rattle.recursive_sum.proofs.one_pass.totals.Given as goal

abbrev pub invariant-loop-above : goal.invariant-loop-above
invariant-loop-above l = record {
  cardinality : IsSumAt l.family One l.merged l.highest l.above l.cardinality;
  weight : IsSumAt l.family Value l.merged l.highest l.above l.weight;
}
