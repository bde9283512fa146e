use Rattle.bound_certificate.proofs.Counted.{formed_root}
use Rattle.certificate_text.proofs.bytes.tree_bytes.Goals as goal

pub put_tree-requires-clause-formed : goal.put_tree-requires-clause-formed
put_tree-requires-clause-formed c = formed_root c.args.tree.now c.requires
