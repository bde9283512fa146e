use Rattle.certificate_text.proofs.ByteParts.{row_hall}
use Rattle.certificate_text.proofs.Reading.{first_fails, then_fails}
use Rattle.certificate_text.proofs.node_bytes.read_hall.Goals as goal

pub returns-in-Err : goal.returns-in-Err
returns-in-Err c = first_fails row_hall c.args.bytes.now c.in-Err.fault c.in-Err.ensures

pub returns-in-Err-read_names : goal.returns-in-Err-read_names
returns-in-Err-read_names c =
    then_fails row_hall c.args.bytes.now c.rest_of.result.now c.in-Ok.read.0 c.in-Ok.read.1 c.in-Err-read_names.fault
    c.in-Ok.ensures c.rest_of.ensures c.in-Err-read_names.ensures
