use Rattle.std.proofs.Common.{length, ◌-◌, ◌≤◌, take}
use Rattle.child_jobs.specs.Reader.{HasTaken}
use Rattle.child_jobs.proofs.read.take_all.Given as goal

abbrev pub invariant-loop-taken : goal.invariant-loop-taken
invariant-loop-taken l = (l.taken ≤ length l.bytes) × HasTaken l.reader (take l.taken l.bytes) l.items.items

abbrev pub decreases-loop-taken : goal.decreases-loop-taken
decreases-loop-taken l = length l.bytes - l.taken
