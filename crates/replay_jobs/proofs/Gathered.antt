-- What was merged of the replies in places.
use Rattle.std.proofs.Common.{◌≡◌, ℕ, ◌+◌, ◌*◌, ◌<◌, ◌≤◌, ◌^◌, zero, suc, Bool, true, false, List, [], ◌∷◌, Option, None, Some, length, get_or, map, sym, ◌∙◌, ap, subst, arith, All}
use Rattle.std.specs.Prelude.{nat_lt, sum_by, if◌then◌else◌}
use Rattle.std.proofs.Math.Nat.{le_of_mul-le-mul_right, mul-le-mul_right}
use Rattle.std.proofs.lemmas.Bool.Decides.{nat_tests}
use Rattle.std.proofs.lemmas.List.Elements.{All-from_get_or}
use Rattle.std.proofs.lemmas.List.Sums.{sum_by-le}
use Rattle.count_sketch.specs.Counters.{AllUpTo}
use Rattle.flow_keys.specs.declared.routed.Routed.{Routed}
use Rattle.hash_family.specs.Setting.{Setting}
use Rattle.path_shares.specs.Shares.{share_job}
use Rattle.replay_supervisor.specs.Jobs.{Places}
use Rattle.reply_format.specs.Reply.{ReplayHead, ReplayReply}
use Rattle.share_jobs.proofs.Heads.{head_known}
use Rattle.share_jobs.specs.Heads.{head_spelled, head_to, joined}
use Rattle.share_jobs.specs.Share.{Share, share_of}
use Rattle.share_jobs.specs.declared.share_job.ShareJob.{ShareJob}
use Rattle.sketch_merge.specs.Merged.{HaveUpTo, View}
use Rattle.replay_places.proofs.Fits.{few_more}
use Rattle.replay_places.proofs.Segments.{segment_length}
use Rattle.replay_places.specs.Epochs.{AreEpochs, IsPlace, StandsFor, heap_limit, key_limit, no_view, segment, share_at, taken_number, view_at, view_of}
use Rattle.replay_places.specs.States.{work_of}
use Rattle.replay_jobs.specs.Replays.{AreGathered, IsReplayWork, IsReplyAt}

-- what a share's pieces spell
pub spelled_at : (jobs : List ShareJob) (job : ℕ) → job < length jobs
    → head_spelled (joined (share_at (map share_of jobs) job).pieces) ≡ Some (share_at (map share_of jobs) job).head
spelled_at [] job within = absurd (omega arith)
spelled_at (first ∷ jobs) zero within = first.spelled
spelled_at (first ∷ jobs) (suc job) within = spelled_at jobs job (omega arith)

first_of : List (List ℕ) → ℕ
first_of [] = 0
first_of ([] ∷ rest) = 0
first_of ((n ∷ ns) ∷ rest) = n

same_product : (a b n : ℕ) → 1 ≤ n → a * n ≡ b * n → a ≡ b
same_product a b n some same =
    let one : a ≤ b = le_of_mul-le-mul_right (omega (arith, same)) some in
    let two : b ≤ a = le_of_mul-le-mul_right (omega (arith, same)) some in
    omega (arith, one, two)

module _ (own : Setting) (n : ℕ) (shares : List Share) (merged : List View) (fit : AreEpochs own n shares merged)
    (spelled : (job : ℕ) → job < length shares
    → head_spelled (joined (share_at shares job).pieces) ≡ Some (share_at shares job).head)
    (setting : Setting) (epochs switches : ℕ) (placement : List ℕ) (routed : List Routed)
    (work : IsReplayWork setting epochs switches placement routed (work_of n shares)) where
  same_switches : n ≡ switches
  unfolding first_of
  same_switches =
      ap (λ (b : Bool). first_of (if b then (share_at shares (epochs * switches)).pieces else (n ∷ []) ∷ [])) (sym past)
      ∙ ap first_of work.behind
    where
      past : nat_lt (epochs * switches) (length shares) ≡ false
      past = let count = work.count in grind (arith, nat_tests)

  some : 1 ≤ switches
  some = subst (λ (m : ℕ). 1 ≤ m) same_switches fit.switches_some

  same_epochs : length merged ≡ epochs
  same_epochs = same_product (length merged) epochs switches some
      (ap (λ (m : ℕ). length merged * m) (sym same_switches) ∙ sym fit.number ∙ work.count)

  inside : (epoch switch : ℕ) → epoch < epochs → switch < switches → epoch * switches + switch < length shares
  inside epoch switch within under =
      let below : (epoch + 1) * switches ≤ epochs * switches = mul-le-mul_right switches (omega arith) in
      let count = work.count in
      omega (arith, below, count)

  head_at : (epoch switch : ℕ) → epoch < epochs → switch < switches
      → (share_at shares (epoch * switches + switch)).head ≡ head_to (share_job setting switches placement routed epoch switch)
  head_at epoch switch within under =
      let job = epoch * switches + switch in
      let yes : nat_lt job (length shares) ≡ true =
      (let known = inside epoch switch within under in grind (arith, nat_tests)) in
      let pieces : (work_of n shares).pieces job ≡ (share_at shares job).pieces =
      ap (λ (b : Bool). if b then (share_at shares job).pieces else (n ∷ []) ∷ []) yes in
      head_known (share_at shares job).head (share_job setting switches placement routed epoch switch)
      (joined (share_at shares job).pieces) (spelled job (inside epoch switch within under))
      (rw (sym pieces) (work.spelled epoch switch within under))

  same_setting : 0 < epochs → own ≡ setting
  same_setting within =
      sym (fit.settings (0 * switches + 0) (inside 0 0 within some))
      ∙ ap (λ (h : ReplayHead). h.setting) (head_at 0 0 within some)

  place_at : (share : Share) (epoch switch : ℕ) → share.head ≡ head_to (share_job setting switches placement routed epoch switch)
      → (reply : Option ReplayReply) (place : Option (List ℕ)) → IsPlace share reply place
      → IsReplyAt setting epochs switches placement routed epoch switch reply place
  place_at share epoch switch head None None is = tt
  place_at share epoch switch head None (Some bytes) is = absurd is
  place_at share epoch switch head (Some reply) None is = absurd is
  place_at share epoch switch head (Some reply) (Some bytes) is = (is.1 ∙ head, is.2)

  pub gathered : (places : Places) → StandsFor own n shares merged places
      → AreGathered setting epochs switches placement routed places merged
  gathered places stands = record {
    number = same_epochs;
    replies = stands.replies;
    replies_number = stands.replies_number ∙ work.count;
    each = λ epoch switch within under. place_at (share_at shares (epoch * switches + switch)) epoch switch
        (head_at epoch switch within under) (get_or stands.replies (epoch * switches + switch) None)
        (get_or places (epoch * switches + switch) None)
        (stands.each (epoch * switches + switch) (inside epoch switch within under));
    views = λ epoch within.
        stands.views epoch (subst (λ (m : ℕ). epoch < m) (sym same_epochs) within)
        ∙ ap (λ (s : Setting). view_of s (segment n epoch stands.replies)) (same_setting (omega arith))
        ∙ ap (λ (m : ℕ). view_of setting (segment m epoch stands.replies)) same_switches;
  }

-- the limits of what was merged
module _ (own : Setting) (n : ℕ) (shares : List Share) (merged : List View) (fit : AreEpochs own n shares merged) where
  pub small_views : All (λ (view : View). All (AllUpTo view.weight) view.counters) merged
  small_views = All-from_get_or (λ (view : View). All (AllUpTo view.weight) view.counters) merged no_view
      (λ epoch within. (fit.each epoch within).small)

  pub light_views : All (λ (view : View). view.weight ≤ 2 ^ 44) merged
  light_views = All-from_get_or (λ (view : View). view.weight ≤ 2 ^ 44) merged no_view
      (λ epoch within. omega (arith, (fit.each epoch within).light))

  few_taken : (epoch : ℕ) → epoch < length merged → sum_by taken_number (segment n epoch shares) ≤ 32
  few_taken epoch within =
      let part = segment n epoch shares in
      let many = segment_length n epoch (length merged) shares fit.number within in
      let most = sum_by-le taken_number 1 part (All-from_get_or (λ (s : Share). taken_number s ≤ 1) part
      (share_at [] 0) (λ k under. at_most (share_at part k))) in
      omega (arith, many, most, fit.switches_few)
    where
      at_most : (share : Share) → taken_number share ≤ 1
      at_most share = either share.taken
        where
          either : (b : Bool) → (if b then 1 else 0) ≤ 1
          either true = omega arith
          either false = omega arith

  pub few_views : All (λ (view : View). HaveUpTo key_limit view.keys) merged
  few_views = All-from_get_or (λ (view : View). HaveUpTo key_limit view.keys) merged no_view
      (λ epoch within. few_more (heap_limit * sum_by taken_number (segment n epoch shares)) key_limit
      (view_at merged epoch).keys (omega (arith, few_taken epoch within)) (fit.each epoch within).keys)
