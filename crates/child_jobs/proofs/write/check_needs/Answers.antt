use Rattle.std.proofs.Common.{ℕ, below_more, get_or, subst, ◌∙◌}
use Rattle.std.proofs.lemmas.List.{get_or_default}
use Rattle.job_format.specs.Job.{IsLoad}
use Rattle.child_jobs.proofs.write.check_needs.Goals as goal

pub loop-need-preserved : goal.loop-need-preserved
loop-need-preserved c = λ k d.
    below_more (λ (j : ℕ). IsLoad (get_or c.args.needs.now j d)) c.loop-need.need-index
    (λ j under. c.loop-need.invariant j d under)
    (subst IsLoad (c.need-item.is
    ∙ get_or_default c.args.needs.now c.loop-need.need-index c.need-item.result d c.loop-need-test.true)
    c.check_need.ensures) k
