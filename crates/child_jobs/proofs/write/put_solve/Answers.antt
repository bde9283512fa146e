use Rattle.child_jobs.proofs.Written.{kept_on}
use Rattle.child_jobs.proofs.write.put_solve.Goals as goal

pub returns-clause-kept : goal.returns-clause-kept
returns-clause-kept c =
    kept_on c.args.out.now.items _ c.put.new.out.items c.put_problem.new.out.items c.in_ok-put.ensures.written
    c.put_problem.ensures.kept
