use Rattle.certificate_text.proofs.ByteParts.{row_counted}
use Rattle.certificate_text.proofs.Reading.{first_fails, then_fails}
use Rattle.certificate_text.proofs.node_bytes.read_counted.Goals as goal

pub returns-in-Err : goal.returns-in-Err
returns-in-Err c = first_fails (row_counted c.args.limit) c.args.bytes.now c.in-Err.fault c.in-Err.ensures

pub returns-in-Err-read_numbers : goal.returns-in-Err-read_numbers
returns-in-Err-read_numbers c =
    then_fails (row_counted c.args.limit) c.args.bytes.now c.rest_of.result.now c.in-Ok.read.0 c.in-Ok.read.1
    c.in-Err-read_numbers.fault
    c.in-Ok.ensures c.rest_of.ensures c.in-Err-read_numbers.ensures
