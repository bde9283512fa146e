use Rattle.certificate_text.proofs.OneText.{alone_reading}
use Rattle.certificate_text.proofs.read_text.read_tree_text.Goals as goal

pub returns-clause-alone : goal.returns-clause-alone
returns-clause-alone c = alone_reading c.args.text.now c.tree_in.result c.tree_in.ensures
