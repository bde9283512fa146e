use Rattle.path_shares.proofs.Whole.{whole_epochs}
use Rattle.path_shares.proofs.laws.honest_epochs.Goals as goal

pub returns : goal.returns
returns c = record { whole = whole_epochs }
