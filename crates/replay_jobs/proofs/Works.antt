-- The shares of a placement, before any reply was taken.
use Rattle.std.proofs.Common.{◌≡◌, ℕ, ◌+◌, ◌*◌, ◌/◌, ◌%◌, ◌<◌, ◌≤◌, ◌^◌, suc, Bool, true, false, List, [], ◌∷◌, length, refl, sym, ◌∙◌, ap, subst, arith, All}
use Rattle.std.specs.Prelude.{nat_lt, sum_by, if◌then◌else◌}
use Rattle.std.specs.List.{range_with_len}
use Rattle.std.proofs.Math.Nat.{mod-lt, mul-le-mul_right}
use Rattle.std.proofs.lemmas.Bool.{true≢false}
use Rattle.std.proofs.lemmas.Bool.Decides.{nat_tests}
use Rattle.std.proofs.lemmas.List.{get_or_past}
use Rattle.std.proofs.lemmas.List.Elements.{All-get_or}
use Rattle.std.proofs.lemmas.List.Sums.{sum_by-cons}
use Rattle.std.proofs.lemmas.Nat.{div-mul-add, mod-mul-add}
use Rattle.count_sketch.specs.Counters.{AllUpTo}
use Rattle.flow_keys.specs.declared.routed.Routed.{Routed}
use Rattle.hash_family.specs.Setting.{Setting}
use Rattle.job_format.specs.Job as jobs
use Rattle.job_format.specs.Job.{ReplayJob}
use Rattle.path_shares.proofs.Weights.{shares_weigh}
use Rattle.path_shares.specs.Shares.{AreOn, share, share_job}
use Rattle.reply_format.specs.Reply.{ReplayHead}
use Rattle.routed_trace.proofs.Weights.{items_in_light}
use Rattle.routed_trace.specs.Routed.{weight_of_routed}
use Rattle.share_jobs.proofs.Judged.{good_says, reply_good}
use Rattle.share_jobs.specs.Heads.{head_to}
use Rattle.share_jobs.specs.Reading.{IsReplyTo, is_good, reading}
use Rattle.share_jobs.specs.Share.{Share}
use Rattle.sketch_merge.specs.Merged.{HaveUpTo, View}
use Rattle.sketch_merge.specs.Merging.{merged_view}
use Rattle.replay_places.proofs.Fits.{few_more}
use Rattle.replay_places.proofs.Numbered.{cut_job, epoch_within}
use Rattle.replay_places.proofs.Segments.{segment_at, segment_length}
use Rattle.replay_places.specs.Epochs.{AreEpochs, heap_limit, no_share, no_view, open_weight, segment, share_at, taken_number, view_at}
use Rattle.replay_places.specs.States.{work_of}
use Rattle.replay_jobs.specs.Grouped.{IsShareOf}
use Rattle.replay_jobs.specs.Replays.{IsNumbered, IsReplayWork}

-- sums over a list and over a range that agree place by place
sum_range : (f : Share → ℕ) (g : ℕ → ℕ) (shares : List Share) (a : ℕ)
    → ((k : ℕ) → k < length shares → f (share_at shares k) ≡ g (a + k))
    → sum_by f shares ≡ sum_by g (range_with_len a (length shares))
sum_range f g [] a agree = refl
sum_range f g (share ∷ shares) a agree =
    let here : f share ≡ g a = agree 0 (omega arith) ∙ ap g (omega arith) in
    let rest = sum_range f g shares (a + 1) (λ k under. agree (suc k) (omega arith) ∙ ap g (omega arith)) in
    sum_by-cons f share shares
    ∙ ap (λ (n : ℕ). n + sum_by f shares) here ∙ ap (λ (n : ℕ). g a + n) rest
    ∙ sym (sum_by-cons g a (range_with_len (a + 1) (length shares)))

no_reply : (bytes : List ℕ) → is_good no_share.head bytes ≡ false
unfolding reading
no_reply bytes = refl

merged_none : (setting : Setting) → (merged_view setting 0 []).setting ≡ setting
unfolding merged_view
merged_none setting = refl

merged_weightless : (setting : Setting) → (merged_view setting 0 []).weight ≡ 0
unfolding merged_view
merged_weightless setting = refl

module _ (setting : Setting) (epochs switches : ℕ) (placement : List ℕ) (routed : List Routed) (shares : List Share)
    (some : 1 ≤ switches) (number : length shares ≡ epochs * switches)
    (each : (job : ℕ) → job < epochs * switches
    → IsShareOf (share_job setting switches placement routed (job / switches) (job % switches)) (share_at shares job))
  where
    abbrev job_of : ℕ → ℕ → ReplayJob
    job_of epoch switch = share_job setting switches placement routed epoch switch

    within : (epoch switch : ℕ) → epoch < epochs → switch < switches → epoch * switches + switch < epochs * switches
    within epoch switch inside under =
        let below : (epoch + 1) * switches ≤ epochs * switches = mul-le-mul_right switches (omega arith) in
        omega (arith, below)

    -- the share of a switch of an epoch
    share_of_job : (epoch switch : ℕ) → epoch < epochs → switch < switches
        → IsShareOf (job_of epoch switch) (share_at shares (epoch * switches + switch))
    share_of_job epoch switch inside under =
        subst (λ (e : ℕ). IsShareOf (job_of e switch) (share_at shares (epoch * switches + switch)))
        (div-mul-add epoch switches switch under)
        (subst (λ (k : ℕ). IsShareOf (job_of ((epoch * switches + switch) / switches) k)
        (share_at shares (epoch * switches + switch))) (mod-mul-add epoch switches switch under)
        (each (epoch * switches + switch) (within epoch switch inside under)))

    -- none has taken a reply
    pub none_taken : (job : ℕ) → (share_at shares job).taken ≡ false
    none_taken job = either (nat_lt job (epochs * switches)) refl
      where
        either : (b : Bool) → nat_lt job (epochs * switches) ≡ b → (share_at shares job).taken ≡ false
        either true is = (each job (grind (arith, nat_tests))).fresh
        either false is =
            let past : length shares ≤ job = grind (arith, nat_tests) in
            ap (λ (s : Share). s.taken) (get_or_past shares job no_share past)

    light_epoch : AreOn switches placement routed → (epoch : ℕ) → epoch < epochs
        → sum_by open_weight (segment switches epoch shares) ≤ weight_of_routed routed
    light_epoch on epoch inside =
        let part = segment switches epoch shares in
        let many = segment_length switches epoch epochs shares number inside in
        let weight = λ (switch : ℕ). jobs.weight_of (share placement epoch switch routed) in
        let sums = sum_range open_weight weight part 0 (λ k under.
        ap open_weight (segment_at switches epoch k shares no_share (omega (arith, many)))
        ∙ opened (share_at shares (epoch * switches + k)) (none_taken (epoch * switches + k))
        ∙ ap (λ (h : ReplayHead). h.weight) (share_of_job epoch k inside (omega (arith, many))).head
        ∙ ap weight (omega arith)) in
        let whole = shares_weigh switches placement routed epoch on in
        let light = items_in_light epoch routed in
        let same : sum_by weight (range_with_len 0 (length part)) ≡ sum_by weight (range_with_len 0 switches) =
        ap (λ (n : ℕ). sum_by weight (range_with_len 0 n)) many in
        omega (arith, sums, whole, light, same)
      where
        opened : (s : Share) → s.taken ≡ false → open_weight s ≡ s.head.weight
        opened s is = rw is refl

    -- the shares of all epochs
    pub shares_fit : (merged : List View) → switches ≤ 32 → epochs ≤ 8 → AreOn switches placement routed
        → weight_of_routed routed ≤ 2 ^ 44 → length merged ≡ epochs
        → All (λ (view : View). view ≡ merged_view setting 0 []) merged
        → All (λ (view : View). All (AllUpTo view.weight) view.counters) merged
        → All (λ (view : View). HaveUpTo 0 view.keys) merged → AreEpochs setting switches shares merged
    shares_fit merged few short on light many views small keys = record {
      switches_some = some;
      switches_few = few;
      epochs_few = omega (arith, many, short);
      number = number ∙ ap (λ (n : ℕ). n * switches) (sym many);
      settings = λ job under. ap (λ (h : ReplayHead). h.setting) (each job (omega (arith, number))).head;
      each = λ epoch under.
          let view : view_at merged epoch ≡ merged_view setting 0 [] =
          All-get_or (λ (v : View). v ≡ merged_view setting 0 []) merged epoch no_view under views in
          let sum = light_epoch on epoch (omega (arith, many)) in
          let none : (view_at merged epoch).weight ≡ 0 = ap (λ (v : View). v.weight) view ∙ merged_weightless setting in
          record {
            setting_is = ap (λ (v : View). v.setting) view ∙ merged_none setting;
            small = All-get_or (λ (v : View). All (AllUpTo v.weight) v.counters) merged epoch no_view under small;
            light = omega (arith, sum, none, light);
            keys = few_more 0 (heap_limit * sum_by taken_number (segment switches epoch shares))
                (view_at merged epoch).keys (omega arith)
                (All-get_or (λ (v : View). HaveUpTo 0 v.keys) merged epoch no_view under keys);
            fresh = λ untaken. view;
          };
    }

    inside_yes : (job : ℕ) → job < epochs * switches → nat_lt job (length shares) ≡ true
    inside_yes job under = grind (arith, nat_tests)

    pieces_at : (job : ℕ) → job < epochs * switches → (work_of switches shares).pieces job ≡ (share_at shares job).pieces
    pieces_at job under = ap (λ (b : Bool). if b then (share_at shares job).pieces else (switches ∷ []) ∷ [])
        (inside_yes job under)

    -- what is promised of the work
    pub works : IsReplayWork setting epochs switches placement routed (work_of switches shares)
    works = record {
      count = number;
      spelled = λ epoch switch inside under. rw (pieces_at (epoch * switches + switch) (within epoch switch inside under))
          ((share_of_job epoch switch inside under).spelled);
      pieces = λ epoch switch inside under. rw (pieces_at (epoch * switches + switch) (within epoch switch inside under))
          ((share_of_job epoch switch inside under).pieces);
      judges = λ job bytes. (says job bytes (nat_lt job (epochs * switches)) refl, answers job bytes);
      behind = ap (λ (b : Bool). if b then (share_at shares (epochs * switches)).pieces else (switches ∷ []) ∷ []) past;
    }
      where
        past : nat_lt (epochs * switches) (length shares) ≡ false
        past = grind (arith, nat_tests)

        says : (job : ℕ) (bytes : List ℕ) (b : Bool) → nat_lt job (epochs * switches) ≡ b
            → is_good (share_at shares job).head bytes ≡ true
            → (epoch : ℕ) × (switch : ℕ) × IsNumbered epochs switches job epoch switch
            × IsReplyTo (head_to (job_of epoch switch)) bytes
        says job bytes true is good =
            let under : job < epochs * switches = grind (arith, nat_tests) in (
              job / switches,
              job % switches,
              record {
                epoch_within = epoch_within job switches epochs some under;
                switch_within = mod-lt job some;
                number_is = sym (cut_job job switches);
              },
              subst (λ (h : ReplayHead). IsReplyTo h bytes) (each job under).head (good_says (share_at shares job).head bytes good),
            )
        says job bytes false is good =
            let past : length shares ≤ job = grind (arith, nat_tests) in
            absurd (true≢false (sym good ∙ ap (λ (s : Share). is_good s.head bytes) (get_or_past shares job no_share past)
            ∙ no_reply bytes))

        answers : (job : ℕ) (bytes : List ℕ) → (epoch : ℕ) × (switch : ℕ) × IsNumbered epochs switches job epoch switch
            × IsReplyTo (head_to (job_of epoch switch)) bytes → is_good (share_at shares job).head bytes ≡ true
        answers job bytes found =
            let numbered = found.2 in
            let head = (share_of_job found.0 found.1 numbered.epoch_within numbered.switch_within).head in
            ap (λ (n : ℕ). is_good (share_at shares n).head bytes) numbered.number_is
            ∙ ap (λ (h : ReplayHead). is_good h bytes) head ∙ reply_good (head_to (job_of found.0 found.1)) bytes found.3
