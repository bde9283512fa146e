use Rattle.std.proofs.Common.{◌≡◌, ℕ, List, map, take}
use Rattle.replay_jobs.specs.Grouped.{items_of, job_number}
use Rattle.replay_jobs.proofs.share.items_of.Given as goal

abbrev pub invariant-loop-index : goal.invariant-loop-index
invariant-loop-index l = (switches : ℕ) (placement : List ℕ) → l.numbers ≡ map (job_number switches placement) l.routed
    → l.items.items ≡ items_of switches placement l.number (take l.index l.routed)
