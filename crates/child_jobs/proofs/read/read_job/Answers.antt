use Rattle.child_jobs.proofs.Collected.{no_other, no_other_breach}
use Rattle.child_jobs.proofs.read.read_job.Goals as goal

pub returns-in-Ok-take_all-clause-alone : goal.returns-in-Ok-take_all-clause-alone
returns-in-Ok-take_all-clause-alone c other =
    no_other c.args.bytes.now c.whole_job.result other
    (c.whole_job.ensures.reads c.args.bytes.now c.in-Ok-take_all.ensures.takes)

pub returns-in-Err-clause-alone : goal.returns-in-Err-clause-alone
returns-in-Err-clause-alone c other = no_other_breach c.args.bytes.now c.in-Err.fault other c.in-Err.ensures.breach
