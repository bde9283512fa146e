-- A reply taken for a share.
use Rattle.std.proofs.Common.{◌≡◌, ℕ, ◌+◌, ◌*◌, ◌/◌, ◌%◌, ◌<◌, ◌≤◌, ◌^◌, zero, suc, false, List, [], ◌∷◌, Option, Some, length, get_or, map, refl, sym, ◌∙◌, ap, subst, arith}
use Rattle.std.specs.Prelude.{IfSome, slice_set}
use Rattle.std.proofs.Math.Nat.{mod-lt}
use Rattle.std.proofs.lemmas.List.{get_or_default}
use Rattle.std.proofs.lemmas.List.Sums.{get_or-le-sum_by}
use Rattle.hash_family.specs.Setting.{Setting}
use Rattle.reply_format.specs.Reply.{ReplayHead, Reply, Replay, Solve}
use Rattle.share_jobs.specs.Reading.{IsReplyOf}
use Rattle.share_jobs.specs.Share.{Share, share_of, with_taken}
use Rattle.share_jobs.specs.declared.share_job.ShareJob.{ShareJob}
use Rattle.sketch_merge.specs.Merged.{View}
use Rattle.sketch_merge.specs.Merging.{IfReplay, MayTake, with_reply}
use Rattle.replay_places.proofs.Numbered.{cut_job, epoch_within}
use Rattle.replay_places.proofs.Segments.{segment_at, segment_length}
use Rattle.replay_places.specs.Epochs.{AreEpochs, TookShare, no_share, no_view, open_weight, segment, share_at, view_at}

-- a reply to a share that has taken none may be merged for its epoch
module _ (setting : Setting) (switches epoch switch : ℕ) (shares : List Share) (merged : List View)
    (fit : AreEpochs setting switches shares merged) (within : switch < switches) (inside : epoch < length merged) where
  abbrev job : ℕ
  job = epoch * switches + switch

  light_on : job < length shares → (share_at shares job).taken ≡ false
      → (view_at merged epoch).weight + (share_at shares job).head.weight ≤ 2 ^ 44
  light_on known free =
      let part = segment switches epoch shares in
      let many = segment_length switches epoch (length merged) shares fit.number inside in
      let at = segment_at switches epoch switch shares no_share within in
      let least = get_or-le-sum_by open_weight part switch no_share (omega (arith, many)) in
      let was : open_weight (get_or part switch no_share) ≡ (share_at shares job).head.weight =
      ap open_weight at ∙ opened (share_at shares job) free in
      omega (arith, least, was, (fit.each epoch inside).light)
    where
      opened : (s : Share) → s.taken ≡ false → open_weight s ≡ s.head.weight
      opened s is = rw is refl

  pub may_take : (reply : Reply) (bytes : List ℕ) → job < length shares → (share_at shares job).taken ≡ false
      → IsReplyOf (share_at shares job).head reply bytes → IfReplay (MayTake (view_at merged epoch)) reply
  may_take (Replay reply) bytes known free of =
      let weight = ap (λ (h : ReplayHead). h.weight) of.0 in
      record {
        proper = of.1.within;
        setting = ap (λ (h : ReplayHead). h.setting) of.0 ∙ fit.settings job known
            ∙ sym (fit.each epoch inside).setting_is;
        light = omega (arith, light_on known free, weight);
        small = (fit.each epoch inside).small;
      }
  may_take (Solve reply) bytes known free of = absurd of

-- the same by the job's number, and by any element that stands at the epoch
pub may_take_job : (setting : Setting) (switches job : ℕ) (shares : List Share) (merged : List View) (view : View)
    → AreEpochs setting switches shares merged → job < length shares → (share_at shares job).taken ≡ false
    → view ≡ get_or merged (job / switches) view → (reply : Reply) (bytes : List ℕ)
    → IsReplyOf (share_at shares job).head reply bytes → IfReplay (MayTake view) reply
may_take_job setting switches job shares merged view fit known free at reply bytes of =
    let inside = epoch_within job switches (length merged) fit.switches_some (omega (arith, known, fit.number)) in
    let cut = sym (cut_job job switches) in
    subst (λ (v : View). IfReplay (MayTake v) reply)
    (get_or_default merged (job / switches) no_view view inside ∙ sym at)
    (may_take setting switches (job / switches) (job % switches) shares merged fit (mod-lt job fit.switches_some) inside
    reply bytes (subst (λ (j : ℕ). j < length shares) cut known)
    (subst (λ (j : ℕ). (share_at shares j).taken ≡ false) cut free)
    (subst (λ (j : ℕ). IsReplyOf (share_at shares j).head reply bytes) cut of))

-- a share by its number
pub share_known : (jobs : List ShareJob) (job : ℕ) (d : ShareJob) → job < length jobs
    → share_at (map share_of jobs) job ≡ share_of (get_or jobs job d)
share_known [] job d within = absurd (omega arith)
share_known (first ∷ jobs) zero d within = refl
share_known (first ∷ jobs) (suc job) d within = share_known jobs job d (omega arith)

-- the reply that was merged
pub took_reply : (epoch job : ℕ) (bytes : List ℕ) (old new : List Share) (merged after : List View) (view : View)
    (reply : Reply) → IsReplyOf (share_at old job).head reply bytes
    → new ≡ slice_set old job (with_taken (share_at old job)) → after ≡ slice_set merged epoch view
    → IfReplay (λ r. view ≡ with_reply (view_at merged epoch) r) reply
    → TookShare epoch job bytes old new merged after
took_reply epoch job bytes old new merged after view (Replay reply) of shares views is = record {
  reply = reply;
  head_is = of.0;
  spelled = of.1;
  shares = shares;
  views = views ∙ ap (slice_set merged epoch) is;
}
took_reply epoch job bytes old new merged after view (Solve reply) of shares views is = absurd of

-- what holds of a value that is there
pub holds_some : {X : Type 0} (P : X → Type 0) (found : Option X) (x : X) → found ≡ Some x → IfSome found P → P x
holds_some P found x is all = subst (λ o. IfSome o P) is all
