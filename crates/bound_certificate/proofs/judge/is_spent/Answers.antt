use Rattle.bound_certificate.proofs.Counted.{formed_root}
use Rattle.bound_certificate.proofs.judge.is_spent.Goals as goal

pub are_explored-explored-requires-clause-formed : goal.are_explored-explored-requires-clause-formed
are_explored-explored-requires-clause-formed c = rw c.new.ensures.value (formed_root c.args.tree.now c.requires.formed)
