use Rattle.job_format.proofs.Spellings.{some_reading}
use Rattle.job_format.proofs.Reading.{one_read}
use Rattle.job_format.proofs.laws.one_reading.Goals as goal

pub returns-clause-always : goal.returns-clause-always
returns-clause-always c = some_reading

pub returns-clause-one : goal.returns-clause-one
returns-clause-one c = one_read
