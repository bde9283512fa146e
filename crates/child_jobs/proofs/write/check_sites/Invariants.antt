use Rattle.std.proofs.Common.{ℕ, ◌<◌, get_or}
use Rattle.bound_certificate.specs.declared.site.Site.{Site}
use Rattle.job_format.specs.Job.{IsSite}
use Rattle.child_jobs.proofs.write.check_sites.Given as goal

abbrev pub invariant-loop-site : goal.invariant-loop-site
invariant-loop-site l = (k : ℕ) (d : Site) → k < l.site-index → IsSite (get_or l.sites k d)
