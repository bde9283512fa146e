use Rattle.std.proofs.Common.{ℕ, below_more, get_or, subst}
use Rattle.std.proofs.lemmas.List.{get_or_default}
use Rattle.bound_certificate.specs.declared.site.Site.{Site}
use Rattle.job_format.specs.Job.{IsSite}
use Rattle.child_jobs.proofs.write.check_sites.Goals as goal

pub loop-site-preserved : goal.loop-site-preserved
loop-site-preserved c = λ k d.
    let none : Site = record { capacity = 0; opening = 0; unit = 0 } in
    below_more (λ (j : ℕ). IsSite (get_or c.args.sites.now j d)) c.loop-site.site-index
    (λ j under. c.loop-site.invariant j d under)
    (subst IsSite (get_or_default c.args.sites.now c.loop-site.site-index none d c.loop-site-test.true)
    c.check_site.ensures) k
