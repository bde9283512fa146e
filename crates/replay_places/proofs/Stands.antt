-- The list of places that jobs stand for, behind a reply that was taken.
use Rattle.std.proofs.Common.{◌≡◌, ◌⊎◌, ℕ, ◌+◌, ◌*◌, ◌<◌, false, List, Option, None, Some, length, get_or, refl, sym, ◌∙◌, ap, arith, inl, inr, length-set}
use Rattle.std.specs.Prelude.{slice_set}
use Rattle.std.proofs.lemmas.Bool.{cases_eq, true≢false}
use Rattle.std.proofs.lemmas.List.{get_or-set_other, get_or-set_same}
use Rattle.hash_family.specs.Setting.{Setting}
use Rattle.replay_supervisor.specs.Jobs.{Places}
use Rattle.reply_format.specs.Reply.{ReplayReply}
use Rattle.share_jobs.specs.Share.{Share, with_taken}
use Rattle.sketch_merge.specs.Merged.{View}
use Rattle.sketch_merge.specs.Merging.{with_reply}
use Rattle.replay_places.specs.Epochs.{IsPlace, StandsFor, TookShare, no_share, no_view, segment, share_at, view_at, view_of}
use Rattle.replay_places.proofs.Places.{view_taken}
use Rattle.replay_places.proofs.Segments.{segment_at, segment_length, segment_other, segment_set}

-- the place of a share that has taken no reply is empty
empty_place : (share : Share) (reply : Option ReplayReply) (place : Option (List ℕ)) → share.taken ≡ false
    → IsPlace share reply place → reply ≡ None
empty_place share None None fresh is = refl
empty_place share None (Some bytes) fresh is = absurd is
empty_place share (Some reply) None fresh is = absurd is
empty_place share (Some reply) (Some bytes) fresh is = absurd (true≢false (sym is.0 ∙ fresh))

module _ (setting : Setting) (switches epoch switch : ℕ) (bytes : List ℕ) (old new : List Share)
    (merged after : List View) (places : Places) (within : switch < switches) where
  abbrev job : ℕ
  job = epoch * switches + switch

  -- the shares stand for the list with these bytes at the job's place
  pub stands_on : job < length old → epoch < length merged → length old ≡ length merged * switches
      → (share_at old job).taken ≡ false → (share_at old job).head.setting ≡ setting
      → TookShare epoch job bytes old new merged after → StandsFor setting switches old merged places
      → StandsFor setting switches new after (slice_set places job (Some bytes))
  stands_on known inside number free same took before =
      let replies = slice_set before.replies job (Some took.reply) in
      let size : length new ≡ length old =
      ap length took.shares ∙ length-set old job (with_taken (share_at old job)) in
      let epochs : length after ≡ length merged =
      ap length took.views ∙ length-set merged epoch (with_reply (view_at merged epoch) took.reply) in
      record {
        replies = replies;
        replies_number = length-set before.replies job (Some took.reply) ∙ before.replies_number ∙ sym size;
        places_number = length-set places job (Some bytes) ∙ before.places_number ∙ sym size;
        each = λ j under. place j (omega (arith, size)) (cases_eq j job);
        views = λ e under. view e (omega (arith, epochs)) (cases_eq e epoch);
      }
    where
      place : (j : ℕ) → j < length old → (j ≡ job) ⊎ ((j ≡ job) → ⊥)
          → IsPlace (share_at new j) (get_or (slice_set before.replies job (Some took.reply)) j None)
          (get_or (slice_set places job (Some bytes)) j None)
      place j under (inl here) =
          let share : share_at new j ≡ with_taken (share_at old job) =
          ap (λ (shares : List Share). share_at shares j) took.shares
          ∙ ap (λ (n : ℕ). share_at (slice_set old job (with_taken (share_at old job))) n) here
          ∙ get_or-set_same old job (with_taken (share_at old job)) no_share known in
          let reply : get_or (slice_set before.replies job (Some took.reply)) j None ≡ Some took.reply =
          ap (λ (n : ℕ). get_or (slice_set before.replies job (Some took.reply)) n None) here
          ∙ get_or-set_same before.replies job (Some took.reply) None (omega (arith, before.replies_number)) in
          let at : get_or (slice_set places job (Some bytes)) j None ≡ Some bytes =
          ap (λ (n : ℕ). get_or (slice_set places job (Some bytes)) n None) here
          ∙ get_or-set_same places job (Some bytes) None (omega (arith, before.places_number)) in
          let is : IsPlace (with_taken (share_at old job)) (Some took.reply) (Some bytes) =
          (refl, took.head_is, took.spelled) in
          rw share (rw reply (rw at is))
      place j under (inr other) =
          let share : share_at new j ≡ share_at old j =
          ap (λ (shares : List Share). share_at shares j) took.shares
          ∙ get_or-set_other old job j (with_taken (share_at old job)) no_share other in
          let reply = get_or-set_other before.replies job j (Some took.reply) None other in
          let at = get_or-set_other places job j (Some bytes) None other in
          rw share (rw reply (rw at (before.each j under)))

      view : (e : ℕ) → e < length merged → (e ≡ epoch) ⊎ ((e ≡ epoch) → ⊥)
          → view_at after e ≡ view_of setting (segment switches e (slice_set before.replies job (Some took.reply)))
      view e under (inl here) =
          let part = segment switches epoch before.replies in
          let size : length part ≡ switches =
          segment_length switches epoch (length merged) before.replies (before.replies_number ∙ number) inside in
          let empty : get_or part switch None ≡ None =
          segment_at switches epoch switch before.replies None within
          ∙ empty_place (share_at old job) (get_or before.replies job None) (get_or places job None) free
          (before.each job known) in
          let setting_is : took.reply.head.setting ≡ setting =
          ap (λ h. h.setting) took.head_is ∙ same in
          ap (λ (views : List View). view_at views e) took.views
          ∙ ap (λ (n : ℕ). view_at (slice_set merged epoch (with_reply (view_at merged epoch) took.reply)) n) here
          ∙ get_or-set_same merged epoch (with_reply (view_at merged epoch) took.reply) no_view inside
          ∙ ap (λ (v : View). with_reply v took.reply) (before.views epoch inside)
          ∙ view_taken setting part switch took.reply (omega (arith, size)) empty took.spelled.within setting_is
          ∙ ap (view_of setting) (sym (segment_set switches epoch switch before.replies (Some took.reply) within))
          ∙ ap (λ (n : ℕ). view_of setting (segment switches n (slice_set before.replies job (Some took.reply)))) (sym here)
      view e under (inr other) =
          ap (λ (views : List View). view_at views e) took.views
          ∙ get_or-set_other merged epoch e (with_reply (view_at merged epoch) took.reply) no_view other
          ∙ before.views e under
          ∙ ap (view_of setting)
          (sym (segment_other switches epoch e switch before.replies (Some took.reply) within other))
