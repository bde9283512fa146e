use Rattle.std.proofs.Common.{◌≡◌, ◌++◌, take}
use Rattle.std.specs.List.{flat_map}
use Rattle.job_format.specs.Job.{need_bytes}
use Rattle.child_jobs.proofs.write.put_needs.Given as goal

abbrev pub invariant-loop-need : goal.invariant-loop-need
invariant-loop-need l = l.out.items ≡ l.initial.out.items ++ flat_map need_bytes (take l.need-index l.needs)
