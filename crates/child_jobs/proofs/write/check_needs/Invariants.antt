use Rattle.std.proofs.Common.{ℕ, ◌<◌, get_or}
use Rattle.bound_certificate.specs.declared.need.Need.{Need}
use Rattle.job_format.specs.Job.{IsLoad}
use Rattle.child_jobs.proofs.write.check_needs.Given as goal

abbrev pub invariant-loop-need : goal.invariant-loop-need
invariant-loop-need l = (k : ℕ) (d : Need) → k < l.need-index → IsLoad (get_or l.needs k d)
