use Rattle.child_jobs.proofs.Written.{kept_on}
use Rattle.child_jobs.proofs.write.put_needs.Goals as goal

pub returns-in_err-put_need-clause-kept : goal.returns-in_err-put_need-clause-kept
returns-in_err-put_need-clause-kept c =
    kept_on c.args.out.now.items _ c.loop-need.out.items c.put_need.new.out.items
    c.loop-need.invariant c.put_need.ensures.kept
