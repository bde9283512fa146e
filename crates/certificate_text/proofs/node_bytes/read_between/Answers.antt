use Rattle.std.proofs.Common.{rules}
use Rattle.certificate_text.proofs.ByteParts.{byte_cut}
use Rattle.certificate_text.proofs.node_bytes.read_between.Goals as goal

pub returns-then-is_empty : goal.returns-then-is_empty
returns-then-is_empty c = byte_cut c.args.least c.args.most c.args.bytes.now c.requires (search rules)
