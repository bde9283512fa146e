use Rattle.std.proofs.Common.{◌∙◌, ap}
use Rattle.sketch_levels.specs.Levels.{Layer}
use Rattle.sketch_levels.proofs.Holding.{dropped_held}
use Rattle.sketch_levels.proofs.levels.Levels.dropped.Goals as goal

pub returns-clause-list : goal.returns-clause-list
returns-clause-list c =
    λ items holds. c.dropped.ensures.value ∙ ap (λ (l : Layer). l.dropped) c.level.ensures.value
    ∙ dropped_held holds _ c.requires
