use Rattle.std.proofs.Common.{ℕ, ◌∙◌, below_more, get_or, subst}
use Rattle.std.proofs.lemmas.List.{get_or_default}
use Rattle.job_format.specs.Job.{IsItem}
use Rattle.share_jobs.proofs.share_job.check_items.Goals as goal

pub loop-item-preserved : goal.loop-item-preserved
loop-item-preserved c = λ k d.
    let is = c.item-item.is ∙ get_or_default c.args.items.now c.loop-item.item-index c.item-item.result d
    c.loop-item-test.true in
    below_more (λ (j : ℕ). IsItem (get_or c.args.items.now j d)) c.loop-item.item-index
    (λ j under. c.loop-item.invariant j d under) (subst IsItem is c.check_item.ensures) k
