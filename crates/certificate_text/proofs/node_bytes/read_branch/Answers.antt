use Rattle.certificate_text.proofs.ByteParts.{branch_fails}
use Rattle.certificate_text.proofs.node_bytes.read_branch.Goals as goal

pub returns-in-Err : goal.returns-in-Err
returns-in-Err c = branch_fails c.args.bytes.now c.in-Err.fault c.in-Err.ensures
