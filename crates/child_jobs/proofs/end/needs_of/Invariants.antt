use Rattle.std.proofs.Common.{◌≡◌, map, take}
use Rattle.job_format.specs.Held.{need_of}
use Rattle.child_jobs.proofs.end.needs_of.Given as goal

abbrev pub invariant-loop-one : goal.invariant-loop-one
invariant-loop-one l = l.needs.items ≡ map need_of (take l.one-index l.held)
