use Rattle.std.proofs.Common.{sym, ◌∙◌}
use Rattle.roster.proofs.Marks.{none_filtered}
use Rattle.roster.proofs.roster.Roster.remove.Goals as goal

pub returns-else-is_out-clause-order : goal.returns-else-is_out-clause-order
returns-else-is_out-clause-order c = sym (none_filtered _ _ (sym c.is_out.ensures.value ∙ c.if-is_out.false))
