use Rattle.path_shares.proofs.United.{united}
use Rattle.path_shares.proofs.laws.honest_replies_unite.Goals as goal

pub returns : goal.returns
returns c = record { united = united }
