use Rattle.sketch_levels.proofs.Noting.{HoldsNotes-none, notes_of-none}
use Rattle.sketch_levels.proofs.all_keys.AllKeys.new.Goals as goal

pub returns-clause-empty : goal.returns-clause-empty
returns-clause-empty c = HoldsNotes-none c.args.levels c.new.result.entries c.new.ensures.empty

pub returns-clause-items : goal.returns-clause-items
returns-clause-items c =
    λ seed. rw (notes_of-none seed) (HoldsNotes-none c.args.levels c.new.result.entries c.new.ensures.empty)
