-- The same of a job by its number.
use Rattle.std.proofs.Common.{◌≡◌, ℕ, ◌+◌, ◌*◌, ◌/◌, ◌%◌, ◌<◌, ◌≤◌, Bool, false, List, Result, length, refl, sym, ◌∙◌, ap, subst, arith, All}
use Rattle.std.specs.Prelude.{slice_set}
use Rattle.std.proofs.Math.Nat.{div-add-mod, div-lt_iff_lt-mul, mod-lt, mul_comm}
use Rattle.std.proofs.lemmas.List.{get_or-set_same}
use Rattle.count_sketch.specs.Counters.{AllUpTo}
use Rattle.hash_family.specs.Setting.{Setting}
use Rattle.mon_io.specs.declared.fault.Memory.{Memory}
use Rattle.replay_supervisor.specs.Jobs.{Took}
use Rattle.reply_format.specs.Reply.{ReplayHead, ReplayReply}
use Rattle.share_jobs.specs.Share.{Share}
use Rattle.sketch_merge.specs.Merged.{HaveUpTo, View}
use Rattle.sketch_merge.specs.Merging.{with_reply}
use Rattle.replay_places.specs.Epochs.{AreEpochs, StandsFor, Takes, TookShare, heap_limit, no_view, share_at, view_at}
use Rattle.replay_places.specs.States.{state_of}
use Rattle.replay_places.proofs.Fits.{few_more, fits_on, small_heap}
use Rattle.replay_places.proofs.Took.{took_on}

-- the epoch and the switch of a job's number
pub cut_job : (job switches : ℕ) → job / switches * switches + job % switches ≡ job
cut_job job switches = ap (λ (n : ℕ). n + job % switches) (mul_comm (job / switches) switches) ∙ div-add-mod job switches

pub epoch_within : (job switches epochs : ℕ) → 1 ≤ switches → job < epochs * switches → job / switches < epochs
epoch_within job switches epochs some within = (div-lt_iff_lt-mul some).1 within

merged_setting : (view : View) (reply : ReplayReply) → (with_reply view reply).setting ≡ view.setting
unfolding with_reply
merged_setting view reply = refl

merged_weight : (view : View) (reply : ReplayReply) → (with_reply view reply).weight ≡ view.weight + reply.head.weight
unfolding with_reply
merged_weight view reply = refl

module _ (setting : Setting) (switches job : ℕ) (bytes : List ℕ) (old new : List Share) (merged after : List View)
    (fit : AreEpochs setting switches old merged) (known : job < length old)
    (free : (share_at old job).taken ≡ false) where
  abbrev epoch : ℕ
  epoch = job / switches

  inside : epoch < length merged
  inside = epoch_within job switches (length merged) fit.switches_some (omega (arith, known, fit.number))

  within : job % switches < switches
  within = mod-lt job fit.switches_some

  pub took_job : (result : Result Bool Memory) → Takes epoch job bytes old new merged after result
      → Took job bytes (state_of switches old) (state_of switches new) (StandsFor setting switches old merged)
      (StandsFor setting switches new after) result
  took_job =
      subst (λ (j : ℕ). j < length old → (share_at old j).taken ≡ false → (share_at old j).head.setting ≡ setting
      → (result : Result Bool Memory) → Takes epoch j bytes old new merged after result
      → Took j bytes (state_of switches old) (state_of switches new) (StandsFor setting switches old merged)
      (StandsFor setting switches new after) result)
      (cut_job job switches)
      (λ is open_ same. took_on setting switches epoch (job % switches) bytes old new merged after within is inside
      fit.number open_ same)
      known free (fit.settings job known)

  fits_by : (took : TookShare epoch job bytes old new merged after)
      → (with_reply (view_at merged epoch) took.reply).setting ≡ setting
      → All (AllUpTo (with_reply (view_at merged epoch) took.reply).weight)
      (with_reply (view_at merged epoch) took.reply).counters
      → (with_reply (view_at merged epoch) took.reply).weight
      ≡ (view_at merged epoch).weight + (share_at old job).head.weight
      → ((n : ℕ) → HaveUpTo n (view_at merged epoch).keys
      → HaveUpTo (n + heap_limit) (with_reply (view_at merged epoch) took.reply).keys)
      → AreEpochs setting switches new after
  fits_by =
      subst (λ (j : ℕ). j < length old → (share_at old j).taken ≡ false
      → (took : TookShare epoch j bytes old new merged after)
      → (with_reply (view_at merged epoch) took.reply).setting ≡ setting
      → All (AllUpTo (with_reply (view_at merged epoch) took.reply).weight)
      (with_reply (view_at merged epoch) took.reply).counters
      → (with_reply (view_at merged epoch) took.reply).weight
      ≡ (view_at merged epoch).weight + (share_at old j).head.weight
      → ((n : ℕ) → HaveUpTo n (view_at merged epoch).keys
      → HaveUpTo (n + heap_limit) (with_reply (view_at merged epoch) took.reply).keys)
      → AreEpochs setting switches new after)
      (cut_job job switches)
      (λ is open_ took same small weighs grown.
      fits_on setting switches epoch (job % switches) bytes old new merged after within is inside open_ took same small
      weighs grown fit)
      known free

  -- the shares fit behind a reply that was merged to this view
  pub fits_job : (view : View) → TookShare epoch job bytes old new merged after
      → after ≡ slice_set merged epoch view → All (AllUpTo view.weight) view.counters
      → ((n : ℕ) → HaveUpTo n (view_at merged epoch).keys → HaveUpTo (n + setting.heap) view.keys)
      → AreEpochs setting switches new after
  fits_job view took views small grown =
      let next = with_reply (view_at merged epoch) took.reply in
      let is : view ≡ next =
      sym (get_or-set_same merged epoch view no_view inside)
      ∙ ap (λ (all : List View). view_at all epoch) (sym views ∙ took.views)
      ∙ get_or-set_same merged epoch next no_view inside in
      let same : took.reply.head.setting ≡ setting =
      ap (λ (h : ReplayHead). h.setting) took.head_is ∙ fit.settings job known in
      let heap : setting.heap ≤ heap_limit = subst (λ (s : Setting). s.heap ≤ heap_limit) same
      (small_heap took.reply.head.setting took.spelled.within.head.within) in
      fits_by took (merged_setting (view_at merged epoch) took.reply ∙ (fit.each epoch inside).setting_is)
      (subst (λ (v : View). All (AllUpTo v.weight) v.counters) is small)
      (merged_weight (view_at merged epoch) took.reply
      ∙ ap (λ (h : ReplayHead). (view_at merged epoch).weight + h.weight) took.head_is)
      (λ n few. subst (λ (v : View). HaveUpTo (n + heap_limit) v.keys) is
      (few_more (n + setting.heap) (n + heap_limit) view.keys (omega (arith, heap)) (grown n few)))
