use Rattle.std.proofs.Common.{rules}
use Rattle.certificate_text.proofs.ByteParts.{number_cut}
use Rattle.certificate_text.proofs.node_bytes.read_number.Goals as goal

pub returns-then-bytes-lt8 : goal.returns-then-bytes-lt8
returns-then-bytes-lt8 c = number_cut c.args.bytes.now c.if-bytes-lt8.true (search rules)
