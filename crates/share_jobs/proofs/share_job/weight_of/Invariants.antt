use Rattle.std.proofs.Common.{◌≡◌, ◌+◌, drop}
use Rattle.job_format.specs.Job.{weight_of}
use Rattle.share_jobs.proofs.share_job.weight_of.Given as goal

abbrev pub invariant-loop-item : goal.invariant-loop-item
invariant-loop-item l = l.sum + weight_of (drop l.item-index l.items) ≡ weight_of l.items
