-- The sites of the needs so far.
use Rattle.std.proofs.Common.{◌≡◌, ◌≤◌, take, length}
use Rattle.bound_certificate.specs.Problem.{need_count}
use Rattle.placement_search.proofs.loads.Loads.choices.Given as goal

abbrev pub invariant-loop-need : goal.invariant-loop-need
invariant-loop-need l =
    (l.choices ≡ take l.need l.self.sites) × (length l.self.sites ≡ 64) × (l.need-end ≡ need_count l.problem) ×
    (need_count l.problem ≤ 64)
