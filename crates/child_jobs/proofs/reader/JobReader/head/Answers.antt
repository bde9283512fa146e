use Rattle.child_jobs.proofs.Begins.{begins_with}
use Rattle.child_jobs.proofs.reader.JobReader.head.Goals as goal

pub returns-clause-begins : goal.returns-clause-begins
returns-clause-begins c = begins_with c.args.self.now
