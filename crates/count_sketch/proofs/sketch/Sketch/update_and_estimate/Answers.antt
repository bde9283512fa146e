use Rattle.std.proofs.Common.{◌+◌, ℕ, FitsSigned, w64, rules, subst}
use Rattle.std.proofs.lemmas.Int.{to_z-of_z}
use Rattle.count_sketch.specs.Counters.{AllUpTo}
use Rattle.count_sketch.proofs.sketch.Sketch.update_and_estimate.Goals as goal

pub returns-clause-bound : goal.returns-clause-bound
returns-clause-bound c = λ n all.
    subst (λ (weight : ℕ). AllUpTo (n + weight) c.update_and_estimate_by.new.self.counters) c.from.ensures
    (c.update_and_estimate_by.ensures.bound n all)

pub returns-clause-result_bound : goal.returns-clause-result_bound
returns-clause-result_bound c = λ n all.
    let fits : FitsSigned w64 c.update_and_estimate_by.result = search rules in
    rw (to_z-of_z w64 _ fits) (c.update_and_estimate_by.ensures.result_bound n all)
