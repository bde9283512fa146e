use Rattle.std.proofs.Common.{length, ◌-◌, ◌≡◌, ◌≤◌, false, take}
use Rattle.child_jobs.specs.Reader.{Moves}
use Rattle.child_jobs.proofs.reader.JobReader.take_on.Given as goal

abbrev pub invariant-loop-taken : goal.invariant-loop-taken
invariant-loop-taken l = (l.taken ≤ length l.piece) × Moves l.fn.self l.self (take l.taken l.piece)
    × (l.self.ended ≡ false)

abbrev pub decreases-loop-taken : goal.decreases-loop-taken
decreases-loop-taken l = length l.piece - l.taken
