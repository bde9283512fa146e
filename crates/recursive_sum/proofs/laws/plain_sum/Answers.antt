use Rattle.recursive_sum.proofs.Sums.{recursive_sum-clear}
use Rattle.recursive_sum.proofs.laws.plain_sum.Goals as goal

pub returns : goal.returns
returns c = record { plain = recursive_sum-clear }
