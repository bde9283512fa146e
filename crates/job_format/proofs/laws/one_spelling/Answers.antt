use Rattle.job_format.proofs.Spellings.{no_longer, same_spelling, some_spelling}
use Rattle.job_format.proofs.laws.one_spelling.Goals as goal

pub returns-clause-some : goal.returns-clause-some
returns-clause-some c = some_spelling

pub returns-clause-one : goal.returns-clause-one
returns-clause-one c = same_spelling

pub returns-clause-no_prefix : goal.returns-clause-no_prefix
returns-clause-no_prefix c = no_longer
