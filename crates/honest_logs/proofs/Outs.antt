-- The job of a ticket, where another ticket came or went.
use Rattle.std.proofs.Common.{◌≡◌, ℕ, ◌==◌, Bool, true, false, cond, inl, inr, List, [], ◌∷◌, ◌++◌, Option, Some, is_some, refl, sym, ◌∙◌, ap}
use Rattle.std.proofs.lemmas.Bool.{cases_Bool, eq-eqb, eqb-true, ne_eqb, true≢false}
use Rattle.replay_core.proofs.Attempts.{job-cons, out-job, out-without, without-cons, without-nil}
use Rattle.replay_core.specs.Attempts.{attempt, job_of, without}
use Rattle.replay_core.specs.Kept.{AreAttempts}
use Rattle.replay_core.specs.declared.attempt.Attempt.{Attempt}

-- one attempt more of another ticket
pub job-pushed : (outs : List Attempt) (t job s : ℕ) → (t ≡ s → ⊥)
    → job_of (outs ++ attempt t job ∷ []) s ≡ job_of outs s
job-pushed [] t job s apart =
    job-cons (attempt t job) [] s ∙ ap (λ (b : Bool). cond b (Some job) (job_of [] s)) (ne_eqb t s apart)
job-pushed (a ∷ outs) t job s apart =
    job-cons a (outs ++ attempt t job ∷ []) s
    ∙ ap (λ (o : Option ℕ). cond (a.ticket == s) (Some a.job) o) (job-pushed outs t job s apart)
    ∙ sym (job-cons a outs s)

-- the attempts but that of another ticket
pub job-left : (outs : List Attempt) (t s : ℕ) → (t ≡ s → ⊥) → job_of (without t outs) s ≡ job_of outs s
job-left [] t s apart = ap (λ (os : List Attempt). job_of os s) (without-nil t)
job-left (a ∷ outs) t s apart =
    ap (λ (os : List Attempt). job_of os s) (without-cons t a outs) ∙ elim (cases_Bool (a.ticket == t)) [
      | inl here ↦
          let other : (a.ticket == s) ≡ false =
          ne_eqb a.ticket s (λ same. apart (sym (eqb-true a.ticket t here) ∙ same)) in
          rw here (sym (job-cons a outs s ∙ ap (λ (b : Bool). cond b (Some a.job) (job_of outs s)) other))
      | inr other ↦ rw other (job-cons a (without t outs) s
          ∙ ap (λ (o : Option ℕ). cond (a.ticket == s) (Some a.job) o) (job-left outs t s apart)
          ∙ sym (job-cons a outs s))
    ]

-- a ticket that is still out is not the one that went
pub went : (n m : ℕ) (outs : List Attempt) (t s job : ℕ) → AreAttempts n m outs
    → job_of (without t outs) s ≡ Some job → t ≡ s → ⊥
went n m outs t s job drawn is same =
    let out : is_some (job_of (without t outs) s) ≡ true = ap (λ (o : Option ℕ). is_some o) is in
    let gone : (s == t) ≡ true = eq-eqb s t (sym same) in
    true≢false (sym out ∙ sym (out-job (without t outs) s) ∙ out-without n m outs t s drawn ∙ rw gone refl)

-- and has its job as before
pub job-stayed : (n m : ℕ) (outs : List Attempt) (t s job : ℕ) → AreAttempts n m outs
    → job_of (without t outs) s ≡ Some job → job_of outs s ≡ Some job
job-stayed n m outs t s job drawn is = sym (job-left outs t s (went n m outs t s job drawn is)) ∙ is
