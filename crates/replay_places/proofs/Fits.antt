-- The shares of all epochs, behind a reply that was taken.
use Rattle.std.proofs.Common.{◌≡◌, ◌⊎◌, ℕ, ◌+◌, ◌*◌, ◌<◌, ◌≤◌, false, List, length, get_or, refl, sym, ◌∙◌, ap, arith, inl, inr, length-set, All, IsTrue}
use Rattle.std.specs.Prelude.{slice_set, sum_by}
use Rattle.std.proofs.lemmas.Bool.{cases_eq, true≢false}
use Rattle.std.proofs.lemmas.Bool.Decides.{nat_tests}
use Rattle.std.proofs.lemmas.List.{get_or-set_other, get_or-set_same}
use Rattle.std.proofs.lemmas.List.Sums.{sum_by-set}
use Rattle.count_sketch.specs.Counters.{AllUpTo}
use Rattle.hash_family.specs.Limits.{are_within}
use Rattle.hash_family.specs.Setting.{Setting}
use Rattle.share_jobs.specs.Share.{Share, with_taken}
use Rattle.sketch_merge.specs.Merged.{HaveUpTo, View}
use Rattle.sketch_merge.specs.Merging.{with_reply}
use Rattle.replay_places.specs.Epochs.{AreEpochs, IsEpoch, TookShare, heap_limit, no_share, no_view, open_weight, segment, share_at, taken_number, view_at}
use Rattle.replay_places.proofs.Segments.{segment_at, segment_length, segment_other, segment_set}

pub few_more : (n m : ℕ) (keys : List (List (List ℕ))) → n ≤ m → HaveUpTo n keys → HaveUpTo m keys
few_more n m keys le few = record { each = λ k d within. up (few.each k d within) }
  where
    up : {x : ℕ} → x ≤ n → x ≤ m
    up h = omega (arith, le, h)

pub small_heap : (setting : Setting) → IsTrue (are_within setting.levels setting.rows setting.width setting.heap)
    → setting.heap ≤ heap_limit
small_heap setting within = grind (arith, nat_tests)

-- an epoch of which one share more has taken a reply
module _ (setting : Setting) (shares : List Share) (switch : ℕ) (share : Share) (before view : View) where
  pub epoch_on : switch < length shares → share_at shares switch ≡ share → share.taken ≡ false
      → view.setting ≡ setting → All (AllUpTo view.weight) view.counters
      → view.weight ≡ before.weight + share.head.weight
      → ((n : ℕ) → HaveUpTo n before.keys → HaveUpTo (n + heap_limit) view.keys)
      → IsEpoch setting shares before → IsEpoch setting (slice_set shares switch (with_taken share)) view
  epoch_on within here free same small weighs grown fit =
      let opens = sum_by-set open_weight shares switch (with_taken share) no_share within in
      let was : open_weight (get_or shares switch no_share) ≡ share.head.weight =
      ap open_weight here ∙ opened share free in
      let count = sum_by-set taken_number shares switch (with_taken share) no_share within in
      let none : taken_number (get_or shares switch no_share) ≡ 0 = ap taken_number here ∙ uncounted share free in
      let more : sum_by taken_number (slice_set shares switch (with_taken share)) ≡ sum_by taken_number shares + 1 =
      omega (arith, count, none) in
      record {
        setting_is = same;
        small = small;
        light = omega (arith, opens, was, weighs, fit.light);
        keys = few_more (heap_limit * sum_by taken_number shares + heap_limit)
            (heap_limit * sum_by taken_number (slice_set shares switch (with_taken share))) view.keys
            (omega (arith, more)) (grown (heap_limit * sum_by taken_number shares) fit.keys);
        fresh = λ untaken. absurd (true≢false
            (sym (ap (λ (s : Share). s.taken) (get_or-set_same shares switch (with_taken share) no_share within))
            ∙ untaken switch (omega (arith, length-set shares switch (with_taken share)))));
      }
    where
      opened : (s : Share) → s.taken ≡ false → open_weight s ≡ s.head.weight
      opened s is = rw is refl

      uncounted : (s : Share) → s.taken ≡ false → taken_number s ≡ 0
      uncounted s is = rw is refl

module _ (setting : Setting) (switches epoch switch : ℕ) (bytes : List ℕ) (old new : List Share)
    (merged after : List View) (within : switch < switches) where
  abbrev job : ℕ
  job = epoch * switches + switch

  pub fits_on : job < length old → epoch < length merged → (share_at old job).taken ≡ false
      → (took : TookShare epoch job bytes old new merged after)
      → (with_reply (view_at merged epoch) took.reply).setting ≡ setting
      → All (AllUpTo (with_reply (view_at merged epoch) took.reply).weight)
      (with_reply (view_at merged epoch) took.reply).counters
      → (with_reply (view_at merged epoch) took.reply).weight
      ≡ (view_at merged epoch).weight + (share_at old job).head.weight
      → ((n : ℕ) → HaveUpTo n (view_at merged epoch).keys
      → HaveUpTo (n + heap_limit) (with_reply (view_at merged epoch) took.reply).keys)
      → AreEpochs setting switches old merged → AreEpochs setting switches new after
  fits_on known inside free took same small weighs grown fit =
      let size : length new ≡ length old =
      ap length took.shares ∙ length-set old job (with_taken (share_at old job)) in
      let epochs : length after ≡ length merged =
      ap length took.views ∙ length-set merged epoch (with_reply (view_at merged epoch) took.reply) in
      record {
        switches_some = fit.switches_some;
        switches_few = fit.switches_few;
        epochs_few = omega (arith, epochs, fit.epochs_few);
        number = size ∙ fit.number ∙ ap (λ (n : ℕ). n * switches) (sym epochs);
        settings = λ j under. heads j (omega (arith, size)) (cases_eq j job);
        each = λ e under. part e (omega (arith, epochs)) (cases_eq e epoch);
      }
    where
      heads : (j : ℕ) → j < length old → (j ≡ job) ⊎ ((j ≡ job) → ⊥) → (share_at new j).head.setting ≡ setting
      heads j under (inl here) =
          ap (λ (shares : List Share). (share_at shares j).head.setting) took.shares
          ∙ ap (λ (n : ℕ). (share_at (slice_set old job (with_taken (share_at old job))) n).head.setting) here
          ∙ ap (λ (s : Share). s.head.setting)
          (get_or-set_same old job (with_taken (share_at old job)) no_share known)
          ∙ fit.settings job known
      heads j under (inr other) =
          ap (λ (shares : List Share). (share_at shares j).head.setting) took.shares
          ∙ ap (λ (s : Share). s.head.setting)
          (get_or-set_other old job j (with_taken (share_at old job)) no_share other)
          ∙ fit.settings j under

      part : (e : ℕ) → e < length merged → (e ≡ epoch) ⊎ ((e ≡ epoch) → ⊥)
          → IsEpoch setting (segment switches e new) (view_at after e)
      part e under (inl here) =
          let shares = segment switches epoch old in
          let many = segment_length switches epoch (length merged) old fit.number inside in
          let at = segment_at switches epoch switch old no_share within in
          let is = epoch_on setting shares switch (share_at old job) (view_at merged epoch)
          (with_reply (view_at merged epoch) took.reply) (omega (arith, many)) at free same small weighs grown
          (fit.each epoch inside) in
          let segment_is : segment switches e new ≡ slice_set shares switch (with_taken (share_at old job)) =
          ap (segment switches e) took.shares
          ∙ ap (λ (n : ℕ). segment switches n (slice_set old job (with_taken (share_at old job)))) here
          ∙ segment_set switches epoch switch old (with_taken (share_at old job)) within in
          let view_is : view_at after e ≡ with_reply (view_at merged epoch) took.reply =
          ap (λ (views : List View). view_at views e) took.views
          ∙ ap (λ (n : ℕ). view_at (slice_set merged epoch (with_reply (view_at merged epoch) took.reply)) n) here
          ∙ get_or-set_same merged epoch (with_reply (view_at merged epoch) took.reply) no_view inside in
          rw segment_is (rw view_is is)
      part e under (inr other) =
          let segment_is : segment switches e new ≡ segment switches e old =
          ap (segment switches e) took.shares
          ∙ segment_other switches epoch e switch old (with_taken (share_at old job)) within other in
          let view_is : view_at after e ≡ view_at merged e =
          ap (λ (views : List View). view_at views e) took.views
          ∙ get_or-set_other merged epoch e (with_reply (view_at merged epoch) took.reply) no_view other in
          rw segment_is (rw view_is (fit.each e under))
