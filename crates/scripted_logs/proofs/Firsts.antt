-- The first good replies of a log's later part answer what their tickets were fed there.
use Rattle.std.proofs.Common.{◌≡◌, ℕ, ◌≤◌, ◌==◌, Bool, cond, inl, inr, List, [], ◌∷◌, ◌++◌, Option, None, Some, All, IsTrue, refl, sym, ◌∙◌, ap, subst, arith}
use Rattle.std.specs.Prelude.{flat_map}
use Rattle.std.proofs.lemmas.Bool.{cases_Bool, eqb-true, true≢false}
use Rattle.std.proofs.lemmas.List.Elements.{All-cons, All-head, All-nil, All-push, All-tail}
use Rattle.std.proofs.lemmas.Option.{none-some}
use Rattle.calm_replays.proofs.Behind.{pieces-behind}
use Rattle.crew.specs.Log.{Entry, AreAnswered, pieces_in}
use Rattle.crew.specs.Log.Entry.{Started, StartFailed, Fed, FeedFailed, Sealed, Reply, Died, Stopped}
use Rattle.replay_core.proofs.Attempts.{job-cons, job-nil, without-cons, without-nil}
use Rattle.replay_core.specs.Attempts.{attempt, job_of, without}
use Rattle.replay_core.specs.declared.attempt.Attempt.{Attempt}
use Rattle.replay_supervisor.specs.Jobs.{Work}
use Rattle.replay_supervisor.specs.Reading.{AreHonest, Reading, is_first_good, job_started, read}
use Rattle.replay_supervisor.specs.Steps.{AreSteps, Plan}

-- no ticket comes before this one
abbrev IsFrom : ℕ → Attempt → Type 0
IsFrom n a = n ≤ a.ticket

from_without : (n t : ℕ) (outs : List Attempt) → All (IsFrom n) outs → All (IsFrom n) (without t outs)
from_without n t [] from = subst (λ (outs : List Attempt). All (IsFrom n) outs) (sym (without-nil t)) from
from_without n t (a ∷ outs) from =
    subst (λ (outs : List Attempt). All (IsFrom n) outs) (sym (without-cons t a outs))
    (elim (cases_Bool (a.ticket == t)) [
      | inl here ↦ rw here (All-tail (IsFrom n) a outs from)
      | inr other ↦ rw other (All-cons (IsFrom n) a (without t outs) (All-head (IsFrom n) a outs from)
          (from_without n t outs (All-tail (IsFrom n) a outs from)))
    ])

ticket_from : (n : ℕ) (outs : List Attempt) (t job : ℕ) → All (IsFrom n) outs → job_of outs t ≡ Some job → n ≤ t
ticket_from n [] t job from is = absurd (none-some job (sym (job-nil t) ∙ is))
ticket_from n (a ∷ outs) t job from is = elim (cases_Bool (a.ticket == t)) [
  | inl here ↦
      let same : a.ticket ≡ t = eqb-true a.ticket t here in
      let first : n ≤ a.ticket = All-head (IsFrom n) a outs from in
      omega (arith, same, first)
  | inr other ↦ ticket_from n outs t job (All-tail (IsFrom n) a outs from)
      (sym (job-cons a outs t ∙ ap (λ (b : Bool). cond b (Some a.job) (job_of outs t)) other) ∙ is)
]

-- no ticket that is out comes before the plan's first
outs_from : (p : Plan) (log : List Entry) → AreSteps p log → All (IsFrom p.first) (read p.work log).outs
unfolding read
outs_from p [] steps = All-nil (IsFrom p.first)
outs_from p (Started t ∷ before) steps =
    All-push (IsFrom p.first) (read p.work before).outs (attempt t (job_started p.work (read p.work before)))
    (outs_from p before steps.1) (omega (arith, steps.0.ticket))
outs_from p (StartFailed t ∷ before) steps = outs_from p before steps.1
outs_from p (Fed t piece ∷ before) steps = outs_from p before steps.1
outs_from p (FeedFailed t ∷ before) steps =
    from_without p.first t (read p.work before).outs (outs_from p before steps.1)
outs_from p (Sealed t ∷ before) steps = outs_from p before steps.1
outs_from p (Reply t bytes ∷ before) steps =
    from_without p.first t (read p.work before).outs (outs_from p before steps.1)
outs_from p (Died t ∷ before) steps =
    from_without p.first t (read p.work before).outs (outs_from p before steps.1)
outs_from p (Stopped t ∷ before) steps =
    from_without p.first t (read p.work before).outs (outs_from p before steps.1)

-- the ticket of a first good reply is out
first_out : (work : Work) (r : Reading) (bytes : List ℕ) (of : Option ℕ) → IsTrue (is_first_good work r bytes of)
    → (job : ℕ) × (of ≡ Some job)
first_out work r bytes None first = absurd (true≢false (sym first))
first_out work r bytes (Some job) first = (job, refl)

module _ (answers : List ℕ → List ℕ → Type 0) (refuses : List ℕ → Type 0) (p : Plan) (earlier : List Entry)
    (fresh : (t : ℕ) → p.first ≤ t → pieces_in earlier t ≡ [])
  where
    -- what a ticket was fed that is out in the later part
    fed_later : (later : List Entry) (t job : ℕ) → AreSteps p later → job_of (read p.work later).outs t ≡ Some job
        → pieces_in (later ++ earlier) t ≡ pieces_in later t
    fed_later later t job steps is =
        pieces-behind later earlier t
        (fresh t (ticket_from p.first (read p.work later).outs t job (outs_from p later steps) is))

    pub honest_later : (later : List Entry) → AreSteps p later → AreAnswered answers refuses (later ++ earlier)
        → AreHonest p.work answers later
    honest_later [] steps answered = tt
    honest_later (Started t ∷ later) steps answered = honest_later later steps.1 answered
    honest_later (StartFailed t ∷ later) steps answered = honest_later later steps.1 answered
    honest_later (Fed t piece ∷ later) steps answered = honest_later later steps.1 answered
    honest_later (FeedFailed t ∷ later) steps answered = honest_later later steps.1 answered
    honest_later (Sealed t ∷ later) steps answered = honest_later later steps.1 answered
    honest_later (Reply t bytes ∷ later) steps answered = (
      λ first.
          let out = first_out p.work (read p.work later) bytes (job_of (read p.work later).outs t) first in
          subst (λ (pieces : List (List ℕ)). answers (flat_map (λ piece. piece) pieces) bytes)
          (fed_later later t out.0 steps.1 out.1) answered.0,
      honest_later later steps.1 answered.1,
    )
    honest_later (Died t ∷ later) steps answered = honest_later later steps.1 answered.1
    honest_later (Stopped t ∷ later) steps answered = honest_later later steps.1 answered
