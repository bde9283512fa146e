-- The share of a switch, and the job to sketch it.
use Rattle.std.specs.Prelude.{ℕ, ◌+◌, ◌*◌, ◌<◌, ◌==◌, ◌&&◌, Bool, List, All, map, filter, slice_index}
use Rattle.flow_keys.specs.declared.routed.Routed.{Routed}
use Rattle.hash_family.specs.Setting.{Setting}
use Rattle.job_format.specs.Job.{ReplayJob}
use Rattle.job_format.specs.declared.item.Item.{Item}

-- the switch to which a placement gives the path of a packet
abbrev pub switch_of : List ℕ → Routed → ℕ
switch_of placement packet = slice_index placement packet.path

-- each packet's switch is one of so many
abbrev pub AreOn : ℕ → List ℕ → List Routed → Type 0
AreOn switches placement routed = All (λ packet. switch_of placement packet < switches) routed

-- a packet is of this epoch, and its path is given to this switch
abbrev pub is_shared : List ℕ → ℕ → ℕ → Routed → Bool
is_shared placement epoch switch packet = packet.epoch == epoch && switch_of placement packet == switch

-- a routed packet as a job has it
abbrev pub job_item : Routed → Item
job_item packet = record { key = packet.key; weight = packet.weight }

-- the share of a switch: the items of an epoch whose path a placement gives to it, in the order of the trace
unfoldable pub share : List ℕ → ℕ → ℕ → List Routed → List Item
share placement epoch switch routed = map job_item (filter (is_shared placement epoch switch) routed)

-- the job to sketch the share of a switch in an epoch, of so many switches
abbrev pub share_job : Setting → ℕ → List ℕ → List Routed → ℕ → ℕ → ReplayJob
share_job setting switches placement routed epoch switch = record {
  number = epoch * switches + switch;
  setting = setting;
  items = share placement epoch switch routed;
}
