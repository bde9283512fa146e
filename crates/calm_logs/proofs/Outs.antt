-- The tickets that are out, where one came or went.
use Rattle.std.proofs.Common.{◌≡◌, ℕ, ◌==◌, not, Bool, true, false, cond, inl, inr, List, [], ◌∷◌, ◌++◌, Option, Some, is_some, map, refl, sym, ◌∙◌, ap, subst}
use Rattle.std.specs.Prelude.{filter, slice_get}
use Rattle.std.proofs.lemmas.Bool.{cases_Bool, eqb-true, ne_eqb, or_parts, true≢false}
use Rattle.std.proofs.lemmas.Option.{same_Some, slice_get-map}
use Rattle.replay_core.proofs.Attempts.{job-cons, out-cons, out-job, out-known, without-cons, without-nil}
use Rattle.replay_core.specs.Attempts.{attempt, is_out, job_of, without}
use Rattle.replay_core.specs.Kept.{AreAttempts}
use Rattle.replay_core.specs.declared.attempt.Attempt.{Attempt}
use Rattle.replay_supervisor.proofs.Stopping.{first-has-job}

-- the tickets, in the order of their starts
abbrev pub tickets : List Attempt → List ℕ
tickets outs = map (λ a. a.ticket) outs

-- a ticket that is not out is none of them
none_apart : (outs : List Attempt) (t : ℕ) → is_out outs t ≡ false
    → filter (λ s. not (s == t)) (tickets outs) ≡ tickets outs
none_apart [] t gone = refl
none_apart (a ∷ outs) t gone =
    let parts = or_parts (a.ticket == t) (is_out outs t) (sym (out-cons a outs t) ∙ gone) in
    ap (λ (b : Bool). cond (not b) (a.ticket ∷ filter (λ s. not (s == t)) (tickets outs))
    (filter (λ s. not (s == t)) (tickets outs))) parts.0
    ∙ ap (λ (ts : List ℕ). a.ticket ∷ ts) (none_apart outs t parts.1)

-- the others stay in their order
pub tickets_without : (n m : ℕ) (outs : List Attempt) (t : ℕ) → AreAttempts n m outs
    → tickets (without t outs) ≡ filter (λ s. not (s == t)) (tickets outs)
tickets_without n m [] t apart = ap tickets (without-nil t)
tickets_without n m (a ∷ outs) t apart =
    ap tickets (without-cons t a outs) ∙ elim (cases_Bool (a.ticket == t)) [
      | inl here ↦
          let gone : is_out outs t ≡ false = ap (is_out outs) (sym (eqb-true a.ticket t here)) ∙ apart.2 in
          rw here (sym (none_apart outs t gone))
      | inr other ↦ rw other (ap (λ (ts : List ℕ). a.ticket ∷ ts) (tickets_without n m outs t apart.3))
    ]

-- the job of a ticket in front, and of one behind it
job_here : (a : Attempt) (outs : List Attempt) (t job : ℕ) → (a.ticket == t) ≡ true → job_of (a ∷ outs) t ≡ Some job
    → a.job ≡ job
job_here a outs t job here is = same_Some a.job job
    (sym (job-cons a outs t ∙ ap (λ (b : Bool). cond b (Some a.job) (job_of outs t)) here) ∙ is)

job_behind : (a : Attempt) (outs : List Attempt) (t : ℕ) → (a.ticket == t) ≡ false
    → job_of (a ∷ outs) t ≡ job_of outs t
job_behind a outs t other =
    job-cons a outs t ∙ ap (λ (b : Bool). cond b (Some a.job) (job_of outs t)) other

-- what is out behind the one in front has a job, where it has one
job_again : (a : Attempt) (outs after : List Attempt) (s job : ℕ)
    → (job_of after s ≡ Some job → job_of outs s ≡ Some job) → job_of (a ∷ after) s ≡ Some job
    → job_of (a ∷ outs) s ≡ Some job
job_again a outs after s job on is = elim (cases_Bool (a.ticket == s)) [
  | inl here ↦ job-cons a outs s ∙ ap (λ (b : Bool). cond b (Some a.job) (job_of outs s)) here
      ∙ ap (λ (j : ℕ). Some j) (job_here a after s job here is)
  | inr other ↦ job_behind a outs s other ∙ on (sym (job_behind a after s other) ∙ is)
]

-- and where another ticket came in front
job_past : (a : Attempt) (outs : List Attempt) (s job : ℕ) → is_out outs a.ticket ≡ false → job_of outs s ≡ Some job
    → job_of (a ∷ outs) s ≡ Some job
job_past a outs s job gone is = elim (cases_Bool (a.ticket == s)) [
  | inl here ↦
      let out : is_out outs s ≡ true = out-job outs s ∙ ap (λ (o : Option ℕ). is_some o) is in
      absurd (true≢false (sym out ∙ ap (is_out outs) (sym (eqb-true a.ticket s here)) ∙ gone))
  | inr other ↦ job_behind a outs s other ∙ is
]

-- a ticket that stays out keeps its job
pub job_without : (n m : ℕ) (outs : List Attempt) (t s job : ℕ) → AreAttempts n m outs
    → job_of (without t outs) s ≡ Some job → job_of outs s ≡ Some job
job_without n m [] t s job apart is = subst (λ (os : List Attempt). job_of os s ≡ Some job) (without-nil t) is
job_without n m (a ∷ outs) t s job apart is =
    let rest = subst (λ (os : List Attempt). job_of os s ≡ Some job) (without-cons t a outs) is in
    elim (cases_Bool (a.ticket == t)) [
      | inl here ↦ job_past a outs s job apart.2
          (subst (λ (b : Bool). job_of (cond b outs (a ∷ without t outs)) s ≡ Some job) here rest)
      | inr other ↦ job_again a outs (without t outs) s job (job_without n m outs t s job apart.3)
          (subst (λ (b : Bool). job_of (cond b outs (a ∷ without t outs)) s ≡ Some job) other rest)
    ]

-- the job of a ticket other than the last
pub job_before : (outs : List Attempt) (t last s job : ℕ) → (s ≡ t → ⊥)
    → job_of (outs ++ attempt t last ∷ []) s ≡ Some job → job_of outs s ≡ Some job
job_before [] t last s job apart is =
    sym (job_behind (attempt t last) [] s (ne_eqb t s (λ e. apart (sym e)))) ∙ is
job_before (a ∷ outs) t last s job apart is =
    job_again a outs (outs ++ attempt t last ∷ []) s job (job_before outs t last s job apart) is

-- the first of them has a job
pub first_job : (outs : List Attempt) (t : ℕ) → slice_get (tickets outs) 0 ≡ Some t
    → (job : ℕ) × (job_of outs t ≡ Some job)
first_job outs t is =
    out-known outs t (first-has-job outs t (sym (slice_get-map (λ (a : Attempt). a.ticket) outs 0) ∙ is))
