use Rattle.std.proofs.Common.{◌≡◌, List, ℕ, map, take}
use Rattle.recursive_sum.specs.Sum.{estimate_at}
use Rattle.change_report.proofs.changes.estimates.Given as goal

abbrev pub invariant-loop-key : goal.invariant-loop-key
invariant-loop-key l =
    l.pairs.items ≡ map (λ (key : List ℕ). (key, estimate_at l.family l.merged 0 key)) (take l.key-index l.keys)
