-- The choices so far, with the needs that are left, complete to what was asked.
use Rattle.std.proofs.Common.{◌≡◌, ◌-◌, length}
use Rattle.bound_certificate.specs.Placement.{AreChoices, completed}
use Rattle.bound_certificate.proofs.completion.complete.Given as goal

abbrev pub invariant-loop : goal.invariant-loop
invariant-loop l =
    (completed l.problem l.completed (l.end - l.counter) ≡ completed l.problem l.choices (l.end - length l.choices))
    × (length l.completed ≡ l.counter) × AreChoices l.problem l.completed
