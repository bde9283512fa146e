use Rattle.child_jobs.proofs.Light.{given_light, given_none}
use Rattle.child_jobs.proofs.reader.JobReader.frame.Goals as goal

pub returns-then-self-clause-light : goal.returns-then-self-clause-light
returns-then-self-clause-light c = given_light c.args.self.now

pub returns-else-self-clause-light : goal.returns-else-self-clause-light
returns-else-self-clause-light c = given_light c.args.self.now

pub returns-then-self-clause-before : goal.returns-then-self-clause-before
returns-then-self-clause-before c = given_none c.args.self.now

pub returns-else-self-clause-before : goal.returns-else-self-clause-before
returns-else-self-clause-before c = given_none c.args.self.now
