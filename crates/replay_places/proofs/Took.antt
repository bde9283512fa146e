-- What a supervisor sees of jobs, behind a reply that was taken or refused.
use Rattle.std.proofs.Common.{◌≡◌, ◌⊎◌, ℕ, ◌+◌, ◌*◌, ◌<◌, ◌==◌, ◌||◌, Bool, true, false, List, [], ◌∷◌, Result, Ok, Err, length, sym, ◌∙◌, ap, subst, arith, inl, inr, length-set, if◌then◌else◌}
use Rattle.std.specs.Prelude.{nat_lt, slice_set}
use Rattle.std.proofs.lemmas.Bool.{cases_eq}
use Rattle.std.proofs.lemmas.Bool.Decides.{nat_tests}
use Rattle.std.proofs.lemmas.List.{get_or-set_other, get_or-set_same}
use Rattle.hash_family.specs.Setting.{Setting}
use Rattle.mon_io.specs.declared.fault.Memory.{Memory}
use Rattle.replay_supervisor.specs.Jobs.{Took}
use Rattle.share_jobs.proofs.Judged.{reply_good}
use Rattle.share_jobs.specs.Reading.{is_good}
use Rattle.share_jobs.specs.Share.{Share, with_taken}
use Rattle.sketch_merge.specs.Merged.{View}
use Rattle.replay_places.specs.Epochs.{StandsFor, Takes, no_share, share_at}
use Rattle.replay_places.specs.States.{state_of, work_of}
use Rattle.replay_places.proofs.Stands.{stands_on}

module _ (shares : List Share) (job : ℕ) (known : job < length shares) where
  abbrev after : List Share
  after = slice_set shares job (with_taken (share_at shares job))

  -- a share is what it was, but for its mark
  share_on : (j : ℕ) → (share_at after j ≡ with_taken (share_at shares j)) ⊎ (share_at after j ≡ share_at shares j)
  share_on j = elim (cases_eq j job) [
    | inl here ↦
        inl (ap (share_at after) here ∙ get_or-set_same shares job (with_taken (share_at shares job)) no_share known
        ∙ ap (λ (n : ℕ). with_taken (share_at shares n)) (sym here))
    | inr other ↦ inr (get_or-set_other shares job j (with_taken (share_at shares job)) no_share other)
  ]

  pieces_on : (j : ℕ) → (share_at after j).pieces ≡ (share_at shares j).pieces
  pieces_on j = elim (share_on j) [
    | inl taken ↦ ap (λ (s : Share). s.pieces) taken
    | inr same ↦ ap (λ (s : Share). s.pieces) same
  ]

  good_on : (j : ℕ) (bytes : List ℕ) → is_good (share_at after j).head bytes ≡ is_good (share_at shares j).head bytes
  good_on j bytes = elim (share_on j) [
    | inl taken ↦ ap (λ (s : Share). is_good s.head bytes) taken
    | inr same ↦ ap (λ (s : Share). is_good s.head bytes) same
  ]

  pub work_on : (switches : ℕ) → work_of switches after ≡ work_of switches shares
  work_on switches = λ i. record {
    count = length-set shares job (with_taken (share_at shares job)) i;
    pieces = λ j. if nat_lt j (length-set shares job (with_taken (share_at shares job)) i) then pieces_on j i
        else (switches ∷ []) ∷ [];
    is_good = λ j bytes. good_on j bytes i;
  }

  pub marks_on : (j : ℕ) → (share_at after j).taken ≡ (j == job || (share_at shares j).taken)
  marks_on j = elim (cases_eq j job) [
    | inl here ↦
        let yes : (j == job) ≡ true = grind (arith, nat_tests) in
        let taken : (share_at after j).taken ≡ true = ap (λ (n : ℕ). (share_at after n).taken) here
        ∙ ap (λ (s : Share). s.taken) (get_or-set_same shares job (with_taken (share_at shares job)) no_share known) in
        taken ∙ sym (ap (λ (b : Bool). b || (share_at shares j).taken) yes)
    | inr other ↦
        let no : (j == job) ≡ false = grind (arith, nat_tests) in
        ap (λ (s : Share). s.taken)
        (get_or-set_other shares job j (with_taken (share_at shares job)) no_share other)
        ∙ sym (ap (λ (b : Bool). b || (share_at shares j).taken) no)
  ]

-- what a share did with bytes is what its job did
module _ (setting : Setting) (switches epoch switch : ℕ) (bytes : List ℕ) (old new : List Share)
    (merged after : List View) (within : switch < switches) where
  abbrev job : ℕ
  job = epoch * switches + switch

  pub took_on : job < length old → epoch < length merged → length old ≡ length merged * switches
      → (share_at old job).taken ≡ false → (share_at old job).head.setting ≡ setting
      → (result : Result Bool Memory) → Takes epoch job bytes old new merged after result
      → Took job bytes (state_of switches old) (state_of switches new) (StandsFor setting switches old merged)
      (StandsFor setting switches new after) result
  took_on known inside number free same (Ok true) took = record {
    good = reply_good (share_at old job).head bytes
        (record { reply = took.reply; head_is = took.head_is; spelled = took.spelled });
    work = ap (work_of switches) took.shares ∙ work_on old job known switches;
    marks = λ j. ap (λ (shares : List Share). (share_at shares j).taken) took.shares ∙ marks_on old job known j;
    list = λ places stood. stands_on setting switches epoch switch bytes old new merged after places within known inside
        number free same took stood;
  }
  took_on known inside number free same (Ok false) took = (
    took.0,
    record {
      state = ap (state_of switches) took.1.0;
      list = λ places stood. subst (λ (views : List View). StandsFor setting switches new views places)
          (sym took.1.1)
          (subst (λ (shares : List Share). StandsFor setting switches shares merged places) (sym took.1.0) stood);
    },
  )
  took_on known inside number free same (Err memory) took = record {
    state = ap (state_of switches) took.0;
    list = λ places stood. subst (λ (views : List View). StandsFor setting switches new views places)
        (sym took.1)
        (subst (λ (shares : List Share). StandsFor setting switches shares merged places) (sym took.0) stood);
  }
