use Rattle.reply_format.proofs.OneRead.{always_read, one_read}
use Rattle.reply_format.proofs.laws.one_reading.Goals as goal

pub returns-clause-always : goal.returns-clause-always
returns-clause-always c = always_read

pub returns-clause-one : goal.returns-clause-one
returns-clause-one c = one_read
