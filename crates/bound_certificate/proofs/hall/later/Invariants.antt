-- The needs so far.
use Rattle.std.proofs.Common.{◌≡◌, ◌-◌, ◌+◌, length}
use Rattle.std.specs.List.{range_with_len}
use Rattle.bound_certificate.proofs.hall.later.Given as goal

abbrev pub invariant-loop-need : goal.invariant-loop-need
invariant-loop-need l = (l.needs ≡ range_with_len l.depth (l.need - l.depth)) × (length l.needs + l.depth ≡ l.need)
