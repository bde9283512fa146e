use Rattle.std.proofs.Common.{FitsSigned, w64, sym, subst, rules}
use Rattle.std.proofs.lemmas.Int.{to_z-of_z}
use Rattle.count_sketch.specs.Counters.{AllUpTo}
use Rattle.sketch_levels.specs.Levels.{Layer}
use Rattle.sketch_levels.proofs.level.Level.estimate.Goals as goal

pub returns-clause-bound : goal.returns-clause-bound
returns-clause-bound c = λ n all.
    let fits : FitsSigned w64 c.estimate.result = search rules in
    let low = subst (λ (l : Layer). AllUpTo n l.sketch.counters) (sym c.self.view_is) all in
    rw (to_z-of_z w64 _ fits) (c.estimate.ensures.bound n low)
