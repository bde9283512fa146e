use Rattle.std.proofs.Common.{◌∙◌}
use Rattle.child_jobs.proofs.Written.{kept_front}
use Rattle.child_jobs.proofs.write.put_items.Goals as goal

pub returns-in_err-put-clause-kept : goal.returns-in_err-put-clause-kept
returns-in_err-put-clause-kept c =
    kept_front c.args.out.now.items _ c.put.new.out.items (c.in_err-put.ensures.refused ∙ c.loop-item.invariant)
