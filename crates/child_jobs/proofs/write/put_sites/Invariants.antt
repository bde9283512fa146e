use Rattle.std.proofs.Common.{◌≡◌, ◌++◌, take}
use Rattle.std.specs.List.{flat_map}
use Rattle.job_format.specs.Job.{site_bytes}
use Rattle.child_jobs.proofs.write.put_sites.Given as goal

abbrev pub invariant-loop-site : goal.invariant-loop-site
invariant-loop-site l = l.out.items ≡ l.initial.out.items ++ flat_map site_bytes (take l.site-index l.sites)
