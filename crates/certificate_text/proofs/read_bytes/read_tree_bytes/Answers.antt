use Rattle.certificate_text.proofs.ByteTrees.{reads_bytes, bytes_alone}
use Rattle.certificate_text.proofs.read_bytes.read_tree_bytes.Goals as goal

pub returns-clause-reads : goal.returns-clause-reads
returns-clause-reads c = reads_bytes c.args.bytes.now c.read_tree.result c.read_tree.ensures.reads

pub returns-clause-alone : goal.returns-clause-alone
returns-clause-alone c =
    λ other reads. bytes_alone c.args.bytes.now c.read_tree.result other c.read_tree.ensures.reads reads
