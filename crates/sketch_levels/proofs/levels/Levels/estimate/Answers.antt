use Rattle.std.proofs.Common.{◌∙◌, FitsSigned, w64, rules}
use Rattle.std.proofs.lemmas.Int.{to_z-of_z}
use Rattle.sketch_levels.proofs.Holding.{score_held}
use Rattle.sketch_levels.proofs.levels.Levels.estimate.Goals as goal

pub returns-clause-list : goal.returns-clause-list
returns-clause-list c = λ items holds. search rules ∙ score_held holds _ c.requires c.args.key.now

pub returns-clause-bound : goal.returns-clause-bound
returns-clause-bound c =
    let fits : FitsSigned w64 c.estimate.result = search rules in
    rw (to_z-of_z w64 _ fits) (c.estimate.ensures.bound c.args.self.now.weight c.level.ensures.shape.bound)
