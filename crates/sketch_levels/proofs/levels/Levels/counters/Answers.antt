use Rattle.std.proofs.Common.{◌∙◌, ap}
use Rattle.sketch_levels.specs.Levels.{Layer}
use Rattle.sketch_levels.proofs.Holding.{counters_held}
use Rattle.sketch_levels.proofs.levels.Levels.counters.Goals as goal

pub returns-clause-list : goal.returns-clause-list
returns-clause-list c =
    λ items holds. c.counters.ensures.value ∙ ap (λ (l : Layer). l.sketch.counters) c.level.ensures.value
    ∙ counters_held holds _ c.requires
