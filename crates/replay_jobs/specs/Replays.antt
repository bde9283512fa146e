-- What the replay jobs of a placement promise.
use Rattle.std.specs.Prelude.{◌≡◌, ◌↔◌, ℕ, ◌+◌, ◌*◌, ◌<◌, true, List, [], ◌∷◌, length, Option, None, Some, slice_index_or}
use Rattle.flow_keys.specs.declared.routed.Routed.{Routed}
use Rattle.hash_family.specs.Setting.{Setting}
use Rattle.job_format.specs.Job.{SpellsReplay}
use Rattle.path_shares.specs.Shares.{share, share_job}
use Rattle.replay_supervisor.specs.Jobs.{Places, Work}
use Rattle.reply_format.specs.Reply.{ReplayReply, Replay, SpellsReply}
use Rattle.share_jobs.specs.Heads.{head_to, joined}
use Rattle.share_jobs.specs.Pieces.{HasPieces}
use Rattle.share_jobs.specs.Reading.{IsReplyTo}
use Rattle.sketch_merge.specs.Merged.{View}
use Rattle.replay_places.specs.Epochs.{segment, view_at, view_of}

-- the number of a job: that of a switch of an epoch, among so many
pub record IsNumbered (epochs switches number epoch switch : ℕ) : Type 0 where
  pub epoch_within : epoch < epochs
  pub switch_within : switch < switches
  pub number_is : number ≡ epoch * switches + switch

module _ (setting : Setting) (epochs switches : ℕ) (placement : List ℕ) (routed : List Routed) where
  -- a job for each epoch and switch, whose pieces spell the replay job of its share: its head, its frames, and the
  -- closing count; good replies are those to it. Behind the last job stands how many switches there are.
  pub record IsReplayWork (work : Work) : Type 0 where
    pub count : work.count ≡ epochs * switches
    pub spelled : (epoch switch : ℕ) → epoch < epochs → switch < switches
        → SpellsReplay (share_job setting switches placement routed epoch switch)
        (joined (work.pieces (epoch * switches + switch)))
    pub pieces : (epoch switch : ℕ) → epoch < epochs → switch < switches
        → HasPieces (epoch * switches + switch) setting (share placement epoch switch routed)
        (work.pieces (epoch * switches + switch))
    pub judges : (number : ℕ) (bytes : List ℕ) → (work.is_good number bytes ≡ true) ↔ ((epoch : ℕ) × (switch : ℕ)
        × IsNumbered epochs switches number epoch switch
        × IsReplyTo (head_to (share_job setting switches placement routed epoch switch)) bytes)
    pub behind : work.pieces (epochs * switches) ≡ (switches ∷ []) ∷ []

  -- a place of a share's job: empty, or bytes that spell this reply to it
  abbrev pub IsReplyAt : ℕ → ℕ → Option ReplayReply → Option (List ℕ) → Type 0
  IsReplyAt epoch switch None None = Unit {0}
  IsReplyAt epoch switch None (Some bytes) = ⊥
  IsReplyAt epoch switch (Some reply) None = ⊥
  IsReplyAt epoch switch (Some reply) (Some bytes) =
      (reply.head ≡ head_to (share_job setting switches placement routed epoch switch))
      × SpellsReply (Replay reply) bytes

  -- the replies in places, merged epoch by epoch
  pub record AreGathered (places : Places) (merged : List View) : Type 0 where
    pub number : length merged ≡ epochs
    pub replies : List (Option ReplayReply)
    pub replies_number : length replies ≡ epochs * switches
    pub each : (epoch switch : ℕ) → epoch < epochs → switch < switches
        → IsReplyAt epoch switch (slice_index_or replies (epoch * switches + switch) None)
        (slice_index_or places (epoch * switches + switch) None)
    pub views : (epoch : ℕ) → epoch < epochs
        → view_at merged epoch ≡ view_of setting (segment switches epoch replies)
