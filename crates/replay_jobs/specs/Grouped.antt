-- The jobs of packets, and the share of a job before a reply was taken.
use Rattle.std.specs.Prelude.{◌≡◌, ℕ, ◌+◌, ◌*◌, ◌==◌, false, List, map, filter}
use Rattle.flow_keys.specs.declared.routed.Routed.{Routed}
use Rattle.job_format.specs.Job.{ReplayJob, SpellsReplay}
use Rattle.job_format.specs.declared.item.Item.{Item}
use Rattle.path_shares.specs.Shares.{job_item, switch_of}
use Rattle.share_jobs.specs.Heads.{head_to, joined}
use Rattle.share_jobs.specs.Pieces.{HasPieces}
use Rattle.share_jobs.specs.Share.{Share}

-- the number of a packet's job: by epoch, and then by the switch to which a placement gives its path
abbrev pub job_number : ℕ → List ℕ → Routed → ℕ
job_number switches placement packet = packet.epoch * switches + switch_of placement packet

-- the items of the packets that are of a job, in the order of the trace
abbrev pub items_of : ℕ → List ℕ → ℕ → List Routed → List Item
items_of switches placement number routed =
    map job_item (filter (λ packet. job_number switches placement packet == number) routed)

-- a share that is of a job, of which no reply was taken
pub record IsShareOf (job : ReplayJob) (share : Share) : Type 0 where
  pub head : share.head ≡ head_to job
  pub pieces : HasPieces job.number job.setting job.items share.pieces
  pub spelled : SpellsReplay job (joined share.pieces)
  pub fresh : share.taken ≡ false
