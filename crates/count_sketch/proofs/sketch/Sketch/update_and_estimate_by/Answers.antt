use Rattle.std.proofs.Common.{FitsSigned, w64, rules}
use Rattle.std.proofs.lemmas.Int.{to_z-of_z}
use Rattle.count_sketch.proofs.sketch.Sketch.update_and_estimate_by.Goals as goal

pub returns-clause-result_bound : goal.returns-clause-result_bound
returns-clause-result_bound c = λ n all.
    let fits : FitsSigned w64 c.update_and_estimate_at.result = search rules in
    rw (to_z-of_z w64 _ fits) (c.update_and_estimate_at.ensures.result_bound n all)
