use Rattle.std.proofs.Common.{subst}
use Rattle.sketch_merge.specs.Merged.{IsView}
use Rattle.sketch_merge.proofs.Views.{IsView-stored}
use Rattle.sketch_merge.proofs.merged.Merged.params.Goals as goal

pub returns-clause-whole : goal.returns-clause-whole
returns-clause-whole c =
    subst IsView c.self.view_is (IsView-stored _ _ _ c.self.inside.dropped c.self.inside.weight c.self.invariant)
