use Rattle.std.proofs.Common.{refl}
use Rattle.sketch_levels.proofs.Holding.{Holds-none}
use Rattle.sketch_levels.proofs.levels.Levels.new.Goals as goal

pub returns-clause-empty : goal.returns-clause-empty
returns-clause-empty c = Holds-none _ refl c.in_ok-levels.ensures.number c.in_ok-levels.ensures.empty
