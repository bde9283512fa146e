-- The search of a log ends with the reply that is accepted and the stopped tickets behind it, and in one place.
use Rattle.std.proofs.Common.{◌≡◌, ◌⊎◌, ℕ, ◌<◌, ◌&&◌, zero, suc, Bool, true, false, cond, List, [], ◌∷◌, ◌++◌, length, Option, None, Some, refl, sym, ◌∙◌, ap, subst, arith, inl, inr, append_assoc}
use Rattle.std.specs.Prelude.{count_by, is_none, is_some, slice_index_or, slice_set}
use Rattle.std.proofs.lemmas.Bool.{and_parts, cases_eq}
use Rattle.std.proofs.lemmas.List.{get_or-set_other}
use Rattle.crew.specs.Log.{Entry}
use Rattle.crew.specs.Log.Entry.{Started, StartFailed, Fed, FeedFailed, Sealed, Reply, Died, Stopped}
use Rattle.replay_core.specs.Attempts.{job_of, job_with, ticket_of, wanted, without}
use Rattle.replay_core.specs.declared.attempt.Attempt.{Attempt}
use Rattle.replay_supervisor.proofs.Matches.{replies-length}
use Rattle.replay_supervisor.specs.Jobs.{Places, Work}
use Rattle.replay_supervisor.specs.Reading.{Reading, accepted, read, read_entry, wanted_after, with_reply}
use Rattle.replay_supervisor.specs.Steps.{AreSteps, IsStep, Plan, moment, moment_after_reply, open_jobs, stopping}
use Rattle.replay_supervisor.specs.Steps.Moment.{Feeding, Idle, Stopping}
use Rattle.measure_told.specs.Told.{Divides, is_stop}

-- a place is not both empty and taken
not_both : {X : Type 0} (place : Option X) → is_none place ≡ true → is_some place ≡ true → ⊥
not_both None none some = let e : false ≡ true = some in cc
not_both (Some x) none some = let e : false ≡ true = none in cc

pub none_some : {X : Type 0} (place : Option X) → place ≡ None → is_some place ≡ true → ⊥
none_some place none some = let e : false ≡ true = sym (ap is_some none) ∙ some in cc

-- and is one of them
pub none_or_some : {X : Type 0} (place : Option X) → (place ≡ None) ⊎ (is_some place ≡ true)
none_or_some None = inl refl
none_or_some (Some x) = inr refl

-- a place that is taken stays taken
stays_with : (work : Work) (replies : Places) (bytes : List ℕ) (of : Option ℕ) (job : ℕ)
    → is_some (slice_index_or replies job None) ≡ true
    → is_some (slice_index_or (with_reply work replies bytes of) job None) ≡ true
stays_with work replies bytes None job some = some
stays_with work replies bytes (Some j) job some =
    taken (work.is_good j bytes && is_none (slice_index_or replies j None)) refl
  where
    taken : (b : Bool) → (work.is_good j bytes && is_none (slice_index_or replies j None)) ≡ b
        → is_some (slice_index_or (cond b (slice_set replies j (Some bytes)) replies) job None) ≡ true
    taken true is = elim (cases_eq job j) [
      | inl here ↦ absurd (not_both (slice_index_or replies j None)
          (and_parts (work.is_good j bytes) (is_none (slice_index_or replies j None)) is).1
          (subst (λ (n : ℕ). is_some (slice_index_or replies n None) ≡ true) here some))
      | inr other ↦ ap is_some (get_or-set_other replies j job (Some bytes) None other) ∙ some
    ]
    taken false is = some

stays_entry : (work : Work) (r : Reading) (entry : Entry) (job : ℕ) → is_some (accepted r job) ≡ true
    → is_some (accepted (read_entry work r entry) job) ≡ true
stays_entry work r (Reply t bytes) job some = stays_with work r.replies bytes (job_of r.outs t) job some
stays_entry work r _ job some = some

pub stays_accepted : (work : Work) (later earlier : List Entry) (job : ℕ)
    → is_some (accepted (read work earlier) job) ≡ true → is_some (accepted (read work (later ++ earlier)) job) ≡ true
unfolding read
stays_accepted work [] earlier job some = some
stays_accepted work (entry ∷ later) earlier job some =
    stays_entry work (read work (later ++ earlier)) entry job (stays_accepted work later earlier job some)

-- where the one job is done, none is left
none_open : (replies : Places) → length replies ≡ 1 → is_some (slice_index_or replies 0 None) ≡ true
    → count_by (λ place. is_none place) replies ≡ 0
none_open [] one some = absurd (omega (arith, one))
none_open (None ∷ []) one some = absurd (let e : false ≡ true = some in cc)
none_open (Some x ∷ []) one some = refl
none_open (x ∷ y ∷ more) one some = absurd (omega (arith, one))

-- and none is wanted
none_wanted : (n : ℕ) (is_done : ℕ → Bool) (outs : List Attempt) → n ≡ suc zero → is_done 0 ≡ true
    → wanted n is_done outs ≡ None
unfolding wanted job_with
none_wanted n is_done outs one done = rw (one, done) refl

not_feeding_idle : (t : ℕ) → Idle ≡ Feeding t → ⊥
not_feeding_idle t e = cc

not_feeding_stopping : (u t : ℕ) → Stopping u ≡ Feeding t → ⊥
not_feeding_stopping u t e = cc

not_feeding_after : (work : Work) (r : Reading) (t : ℕ) (bytes : List ℕ) (of : Option ℕ) (u : ℕ)
    → moment_after_reply work r t bytes of ≡ Feeding u → ⊥
not_feeding_after work r t bytes None u e = not_feeding_idle u e
not_feeding_after work r t bytes (Some job) u e =
    either (work.is_good job bytes && is_none (accepted r job)) (ticket_of (without t r.outs) job) e
  where
    either : (b : Bool) (rival : Option ℕ) → cond b (stopping rival) Idle ≡ Feeding u → ⊥
    either true None e = not_feeding_idle u e
    either true (Some s) e = not_feeding_stopping s u e
    either false rival e = not_feeding_idle u e

module _ (p : Plan) (one : p.work.count ≡ 1) where
  no_job : (before : List Entry) → is_some (accepted (read p.work before) 0) ≡ true
      → (found : (job : ℕ) × (wanted_after p.work (read p.work before) ≡ Some job)) → ⊥
  no_job before some found =
      none_some (Some found.0) (sym found.1
      ∙ none_wanted p.work.count (λ job. is_some (accepted (read p.work before) job)) (read p.work before).outs
      (omega (arith, one)) some) refl

  pub not_open : (before : List Entry) → is_some (accepted (read p.work before) 0) ≡ true
      → 0 < open_jobs (read p.work before) → ⊥
  not_open before some above =
      let none = none_open (read p.work before).replies (replies-length p.work before ∙ one) some in
      omega (arith, none, above)

  -- behind the accepted reply no ticket is fed
  not_feeding : (log : List Entry) → AreSteps p log → is_some (accepted (read p.work log) 0) ≡ true → (t : ℕ)
      → moment p.work log ≡ Feeding t → ⊥
  unfolding read moment
  not_feeding [] steps some t e = not_feeding_idle t e
  not_feeding (Started u ∷ before) steps some t e = no_job before some steps.0.job
  not_feeding (StartFailed u ∷ before) steps some t e = not_feeding_idle t e
  not_feeding (Fed u piece ∷ before) steps some t e = not_feeding before steps.1 some u steps.0.moment
  not_feeding (FeedFailed u ∷ before) steps some t e = not_feeding_stopping u t e
  not_feeding (Sealed u ∷ before) steps some t e = not_feeding_idle t e
  not_feeding (Reply u bytes ∷ before) steps some t e =
      not_feeding_after p.work (read p.work before) u bytes (job_of (read p.work before).outs u) t e
  not_feeding (Died u ∷ before) steps some t e = not_feeding_idle t e
  not_feeding (Stopped u ∷ before) steps some t e = not_feeding_idle t e

  -- what stands behind the accepted reply is a stopped ticket
  pub stops_only : (entry : Entry) (before : List Entry) → IsStep p before entry → AreSteps p before
      → is_some (accepted (read p.work before) 0) ≡ true → is_stop entry ≡ true
  stops_only (Started t) before step steps some = absurd (no_job before some step.job)
  stops_only (StartFailed t) before step steps some = absurd (no_job before some step.job)
  stops_only (Fed t piece) before step steps some = absurd (not_feeding before steps some t step.moment)
  stops_only (FeedFailed t) before step steps some = absurd (not_feeding before steps some t step)
  stops_only (Sealed t) before step steps some = absurd (not_feeding before steps some t step.moment)
  stops_only (Reply t bytes) before step steps some = absurd (not_open before some step.some_open)
  stops_only (Died t) before step steps some = absurd (not_open before some step.some_open)
  stops_only (Stopped t) before step steps some = refl

-- of two cuts of a list one is behind the other
cuts : {X : Type 0} (xs ys zs ws : List X) → xs ++ ys ≡ zs ++ ws
    → ((m : List X) × (xs ≡ zs ++ m) × (ws ≡ m ++ ys)) ⊎ ((m : List X) × (zs ≡ xs ++ m) × (ys ≡ m ++ ws))
cuts [] ys zs ws e = inr (zs, refl, e)
cuts (x ∷ xs) ys [] ws e = inl (x ∷ xs, refl, sym e)
cuts {X} (x ∷ xs) ys (z ∷ zs) ws e =
    let first : x ≡ z = cc in
    let rest : xs ++ ys ≡ zs ++ ws = cc in
    elim (cuts xs ys zs ws rest) [
      | inl c ↦ inl (c.0, (λ i. first i ∷ c.1 i), c.2)
      | inr c ↦ let back : z ≡ x = sym first in inr (c.0, (λ i. back i ∷ c.1 i), c.2)
    ]

-- the oldest entry
pub oldest : {X : Type 0} (xs : List X) → (xs ≡ []) ⊎ ((front : List X) × (x : X) × (xs ≡ front ++ x ∷ []))
oldest [] = inl refl
oldest {X} (x ∷ xs) = elim (oldest xs) [
  | inl none ↦ inr ([], x, ap (λ (ys : List X). x ∷ ys) none)
  | inr some ↦ inr (x ∷ some.0, some.1, ap (λ (ys : List X). x ∷ ys) some.2)
]

-- the steps of a log are those of its earlier part
pub steps_of : (p : Plan) (later earlier : List Entry) → AreSteps p (later ++ earlier) → AreSteps p earlier
steps_of p [] earlier steps = steps
steps_of p (entry ∷ later) earlier steps = steps_of p later earlier steps.1

-- An entry of the search's log that is no stopped ticket stands before the accepted reply.
pub goes_before : (p : Plan) (solve later earlier : List Entry) (entry : Entry) → p.work.count ≡ 1 → AreSteps p solve
    → solve ≡ later ++ entry ∷ earlier → is_stop entry ≡ false
    → is_some (accepted (read p.work earlier) 0) ≡ true → ⊥
goes_before p solve later earlier entry one steps there goes some =
    let parts : AreSteps p (entry ∷ earlier) = steps_of p later (entry ∷ earlier) (subst (AreSteps p) there steps) in
    let e : true ≡ false = sym (stops_only p one entry earlier parts.0 parts.1 some) ∙ goes in
    cc

-- the search is cut off in one place, by whatever work it is read that accepts the same
pub one_cut : (p : Plan) (work : Work) (part solve replay entries rest : List Entry) → p.work.count ≡ 1
    → ((log : List Entry) → accepted (read work log) 0 ≡ accepted (read p.work log) 0)
    → AreSteps p solve → is_some (accepted (read p.work solve) 0) ≡ true
    → ((later : List Entry) (entry : Entry) → replay ≡ later ++ entry ∷ [] → is_stop entry ≡ false)
    → part ≡ replay ++ solve → Divides work part entries rest → entries ≡ solve
one_cut p work part solve replay entries rest one same steps some begins whole divides =
    elim (cuts rest entries replay solve (sym divides.whole ∙ whole)) [
      | inl c ↦ elim (oldest c.0) [
        | inl none ↦ sym (c.2 ∙ ap (λ (xs : List Entry). xs ++ entries) none)
        | inr last ↦
            let there : solve ≡ last.0 ++ last.1 ∷ entries =
            c.2 ∙ ap (λ (xs : List Entry). xs ++ entries) last.2 ∙ append_assoc last.0 (last.1 ∷ []) entries in
            let goes : is_stop last.1 ≡ false = divides.next (replay ++ last.0) last.1
            (c.1 ∙ ap (λ (xs : List Entry). replay ++ xs) last.2 ∙ sym (append_assoc replay last.0 (last.1 ∷ []))) in
            absurd (goes_before p solve last.0 entries last.1 one steps there goes
            (ap is_some (sym (same entries)) ∙ divides.done))
      ]
      | inr c ↦ elim (oldest c.0) [
        | inl none ↦ c.2 ∙ ap (λ (xs : List Entry). xs ++ solve) none
        | inr last ↦
            let there : entries ≡ last.0 ++ last.1 ∷ solve =
            c.2 ∙ ap (λ (xs : List Entry). xs ++ solve) last.2 ∙ append_assoc last.0 (last.1 ∷ []) solve in
            let goes : is_stop last.1 ≡ false = begins (rest ++ last.0) last.1
            (c.1 ∙ ap (λ (xs : List Entry). rest ++ xs) last.2 ∙ sym (append_assoc rest last.0 (last.1 ∷ []))) in
            absurd (none_some (accepted (read work solve) 0) (divides.ends last.0 solve last.1 there goes)
            (ap is_some (same solve) ∙ some))
      ]
    ]
