use Rattle.std.proofs.Common.{List, ℤ, FitsSigned, w64, sym, subst, rules}
use Rattle.std.proofs.lemmas.Int.{to_z-of_z}
use Rattle.count_sketch.specs.Counters.{Grid, AllUpTo}
use Rattle.count_sketch.proofs.sketch.Sketch.estimate.Goals as goal

pub returns-clause-bound : goal.returns-clause-bound
returns-clause-bound c = λ n all.
    let fits : FitsSigned w64 c.estimate_in.result = search rules in
    let low = subst (λ (g : Grid). AllUpTo n g.counters) (sym c.self.view_is) all in
    let lent = subst (λ (xs : List ℤ). AllUpTo n xs) (sym c.deref.ensures.value) low in
    rw (to_z-of_z w64 _ fits) (c.estimate_in.ensures.bound n lent)
