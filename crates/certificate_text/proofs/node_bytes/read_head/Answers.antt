use Rattle.certificate_text.proofs.ByteParts.{row_head}
use Rattle.certificate_text.proofs.Reading.{first_fails, then_fails}
use Rattle.certificate_text.proofs.node_bytes.read_head.Goals as goal

pub returns-in-Err : goal.returns-in-Err
returns-in-Err c =
    first_fails (row_head c.args.depth c.args.left) c.args.bytes.now c.in-Err.fault
    (rw c.least_kind.ensures.value at c.in-Err.ensures)

pub returns-in-Err-read_body : goal.returns-in-Err-read_body
returns-in-Err-read_body c =
    then_fails (row_head c.args.depth c.args.left) c.args.bytes.now c.rest_of.result.now c.in-Ok.read.0 c.in-Ok.read.1
    c.in-Err-read_body.fault
    (rw c.least_kind.ensures.value at c.in-Ok.ensures) c.rest_of.ensures c.in-Err-read_body.ensures
