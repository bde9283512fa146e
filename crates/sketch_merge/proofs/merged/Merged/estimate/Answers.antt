use Rattle.std.proofs.Common.{◌^◌, FitsSigned, w64, sym, subst, rules}
use Rattle.std.proofs.lemmas.Int.{to_z-of_z}
use Rattle.count_sketch.specs.Counters.{AllUpTo}
use Rattle.sketch_merge.proofs.merged.Merged.estimate.Goals as goal

pub returns-clause-bound : goal.returns-clause-bound
returns-clause-bound c =
    let fits : FitsSigned w64 c.estimate_in.result = search rules in
    rw (to_z-of_z w64 _ fits) (c.estimate_in.ensures.bound (2 ^ 45) c.counters-counters.ensures.bound)

pub returns-clause-within : goal.returns-clause-within
returns-clause-within c = λ n small.
    let fits : FitsSigned w64 c.estimate_in.result = search rules in
    rw (to_z-of_z w64 _ fits)
    (c.estimate_in.ensures.bound n (subst (AllUpTo n) (sym c.counters-counters.ensures.value) small))
