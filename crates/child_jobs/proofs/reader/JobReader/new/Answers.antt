use Rattle.std.proofs.Common.{refl, rules}
use Rattle.child_jobs.proofs.Taken.{starts}
use Rattle.child_jobs.proofs.reader.JobReader.new.Goals as goal

pub returns-clause-start : goal.returns-clause-start
returns-clause-start c = starts _ refl c.first_place.ensures refl refl (search rules) (search rules) (search rules)
