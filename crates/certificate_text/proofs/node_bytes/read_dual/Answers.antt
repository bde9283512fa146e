use Rattle.certificate_text.proofs.ByteParts.{row_dual}
use Rattle.certificate_text.proofs.Reading.{first_fails, then_stands, then_fails}
use Rattle.certificate_text.proofs.node_bytes.read_dual.Goals as goal

pub returns-in-Err : goal.returns-in-Err
returns-in-Err c = first_fails row_dual c.args.bytes.now c.in-Err.fault c.in-Err.ensures

pub returns-in-Ok-read_counted : goal.returns-in-Ok-read_counted
returns-in-Ok-read_counted c =
    then_stands row_dual c.args.bytes.now c.rest_of.result.now c.in-Ok.read.0 c.in-Ok-read_counted.mu c.in-Ok.read.1
    c.in-Ok-read_counted.taken
    c.in-Ok.ensures c.rest_of.ensures
    (rw (c.in-Ok-read_counted.mu-is, c.in-Ok-read_counted.taken-is) c.in-Ok-read_counted.ensures)

pub returns-in-Err-read_counted : goal.returns-in-Err-read_counted
returns-in-Err-read_counted c =
    then_fails row_dual c.args.bytes.now c.rest_of.result.now c.in-Ok.read.0 c.in-Ok.read.1 c.in-Err-read_counted.fault
    c.in-Ok.ensures c.rest_of.ensures c.in-Err-read_counted.ensures
