use Rattle.std.proofs.Common.{ℕ, ◌<◌, get_or}
use Rattle.job_format.specs.Job.{IsItem}
use Rattle.job_format.specs.declared.item.Item.{Item}
use Rattle.share_jobs.proofs.share_job.check_items.Given as goal

abbrev pub invariant-loop-item : goal.invariant-loop-item
invariant-loop-item l = (k : ℕ) (d : Item) → k < l.item-index → IsItem (get_or l.items k d)
