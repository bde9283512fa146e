use Rattle.path_shares.proofs.Weights as weights
use Rattle.path_shares.proofs.laws.shares_weigh.Goals as goal

pub returns : goal.returns
returns c = record { weight = weights.shares_weigh }
