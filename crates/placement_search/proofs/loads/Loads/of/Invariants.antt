-- The needs so far that have a choice are at it.
use Rattle.std.proofs.Common.{◌≡◌, ◌<◌, ◌≤◌, ℕ, length, slice_index}
use Rattle.bound_certificate.specs.Problem.{need_count}
use Rattle.placement_search.proofs.loads.Loads.of.Given as goal

abbrev pub invariant-loop-need : goal.invariant-loop-need
invariant-loop-need l =
    ((k : ℕ) → k < l.need → k < length l.choices → slice_index l.loads.sites k ≡ slice_index l.choices k)
    × (length l.loads.sites ≡ 64) × (l.need-end ≡ need_count l.problem) × (need_count l.problem ≤ 64)
