use Rattle.std.proofs.Common.{◌≡◌, ◌<◌, ◌/◌, ◌%◌, ℕ, length, map}
use Rattle.hash_family.specs.Setting.{setting_of}
use Rattle.path_shares.specs.Shares.{share_job}
use Rattle.share_jobs.specs.Share.{share_of}
use Rattle.replay_places.specs.Epochs.{share_at}
use Rattle.replay_jobs.specs.Grouped.{IsShareOf}
use Rattle.replay_jobs.proofs.grouping.all_shares.Given as goal

abbrev pub invariant-loop-number : goal.invariant-loop-number
invariant-loop-number l =
    (length l.shares.items ≡ l.number)
    × ((job : ℕ) → job < l.number
    → IsShareOf (share_job (setting_of l.params) l.switches l.placement l.routed (job / l.switches) (job % l.switches))
    (share_at (map share_of l.shares.items) job))
