-- The shares of all epochs, what was merged of their replies, and which lists of places stand for that.
use Rattle.std.specs.Prelude.{◌≡◌, ℕ, ◌+◌, ◌*◌, ◌≤◌, ◌<◌, ◌^◌, true, false, List, [], length, take, drop, sum_by, All, Bool, Option, None, Some, Result, Ok, Err, slice_index_or, slice_set, if◌then◌else◌}
use Rattle.hash_family.specs.Setting.{Setting}
use Rattle.count_sketch.specs.Counters.{AllUpTo}
use Rattle.mon_io.specs.declared.fault.Memory.{Memory}
use Rattle.reply_format.specs.Reply.{ReplayReply, Replay, SpellsReply, head_of}
use Rattle.replay_supervisor.specs.Jobs.{Places}
use Rattle.share_jobs.specs.Reading.{is_good}
use Rattle.share_jobs.specs.Share.{Share, with_taken}
use Rattle.sketch_merge.specs.Merged.{HaveUpTo, View}
use Rattle.sketch_merge.specs.Merging.{merged_view, present, with_reply}

abbrev pub no_setting : Setting
no_setting = record { levels = 0; rows = 0; width = 0; heap = 0; seed = 0 }

abbrev pub no_share : Share
no_share = record { head = head_of 0 no_setting 0 0; pieces = []; taken = false }

-- the share of a job's number
abbrev pub share_at : List Share → ℕ → Share
share_at shares job = slice_index_or shares job no_share

abbrev pub no_view : View
no_view = record { setting = no_setting; weight = 0; counters = []; keys = []; dropped = false }

-- what was merged for an epoch
abbrev pub view_at : List View → ℕ → View
view_at merged epoch = slice_index_or merged epoch no_view

-- what stands for an epoch, of so many switches an epoch
abbrev pub segment : {X : Type 0} → ℕ → ℕ → List X → List X
segment switches epoch xs = take switches (drop (epoch * switches) xs)

-- what a share may still add
abbrev pub open_weight : Share → ℕ
open_weight share = if share.taken then 0 else share.head.weight

-- how many replies a share has taken
abbrev pub taken_number : Share → ℕ
taken_number share = if share.taken then 1 else 0

-- the most keys that a reply names at a level, and those of an epoch
abbrev pub heap_limit : ℕ
heap_limit = 1024

abbrev pub key_limit : ℕ
key_limit = 32768

-- the shares of an epoch and what was merged for it: no absolute counter is above the weight, which stays within 2^44
-- also with the shares that have no reply
pub record IsEpoch (setting : Setting) (shares : List Share) (merged : View) : Type 0 where
  pub setting_is : merged.setting ≡ setting
  pub small : All (AllUpTo merged.weight) merged.counters
  pub light : merged.weight + sum_by open_weight shares ≤ 2 ^ 44
  pub keys : HaveUpTo (heap_limit * sum_by taken_number shares) merged.keys
  pub fresh : ((switch : ℕ) → switch < length shares → (share_at shares switch).taken ≡ false)
      → merged ≡ merged_view setting 0 []

-- up to eight epochs of shares, one for each of up to 32 switches
pub record AreEpochs (setting : Setting) (switches : ℕ) (shares : List Share) (merged : List View) : Type 0 where
  pub switches_some : 1 ≤ switches
  pub switches_few : switches ≤ 32
  pub epochs_few : length merged ≤ 8
  pub number : length shares ≡ length merged * switches
  pub settings : (job : ℕ) → job < length shares → (share_at shares job).head.setting ≡ setting
  pub each : (epoch : ℕ) → epoch < length merged
      → IsEpoch setting (segment switches epoch shares) (view_at merged epoch)

-- a place of a share: empty, or bytes that spell this reply to it
abbrev pub IsPlace : Share → Option ReplayReply → Option (List ℕ) → Type 0
IsPlace share None None = share.taken ≡ false
IsPlace share None (Some bytes) = ⊥
IsPlace share (Some reply) None = ⊥
IsPlace share (Some reply) (Some bytes) =
    (share.taken ≡ true) × (reply.head ≡ share.head) × SpellsReply (Replay reply) bytes

-- what replies weigh together
abbrev pub weights : List ReplayReply → ℕ
weights replies = sum_by (λ reply. reply.head.weight) replies

-- what the replies in places say together
abbrev pub view_of : Setting → List (Option ReplayReply) → View
view_of setting replies = merged_view setting (weights (present replies)) (present replies)

-- the places of all shares, with the replies in them, and what was merged of these
pub record StandsFor (setting : Setting) (switches : ℕ) (shares : List Share) (merged : List View) (places : Places)
    : Type 0 where
  pub replies : List (Option ReplayReply)
  pub replies_number : length replies ≡ length shares
  pub places_number : length places ≡ length shares
  pub each : (job : ℕ) → job < length shares
      → IsPlace (share_at shares job) (slice_index_or replies job None) (slice_index_or places job None)
  pub views : (epoch : ℕ) → epoch < length merged
      → view_at merged epoch ≡ view_of setting (segment switches epoch replies)

-- a share has taken bytes, which spell this reply to it; it was merged for the epoch
pub record TookShare (epoch job : ℕ) (bytes : List ℕ) (old new : List Share) (merged after : List View) : Type 0 where
  pub reply : ReplayReply
  pub head_is : reply.head ≡ (share_at old job).head
  pub spelled : SpellsReply (Replay reply) bytes
  pub shares : new ≡ slice_set old job (with_taken (share_at old job))
  pub views : after ≡ slice_set merged epoch (with_reply (view_at merged epoch) reply)

-- nothing changed
abbrev pub IsSame : List Share → List Share → List View → List View → Type 0
IsSame old new merged after = (new ≡ old) × (after ≡ merged)

-- how a share took bytes: true exactly where they spell a reply to it
abbrev pub Takes : ℕ → ℕ → List ℕ → List Share → List Share → List View → List View → Result Bool Memory → Type 0
Takes epoch job bytes old new merged after (Ok true) = TookShare epoch job bytes old new merged after
Takes epoch job bytes old new merged after (Ok false) =
    (is_good (share_at old job).head bytes ≡ false) × IsSame old new merged after
Takes epoch job bytes old new merged after (Err _) = IsSame old new merged after
