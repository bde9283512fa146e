-- What each ticket that is out was fed.
use Rattle.std.proofs.Common.{◌≡◌, ℕ, ◌+◌, ◌<◌, ◌==◌, Bool, false, cond, inl, inr, List, [], ◌∷◌, ◌++◌, Option, Some, refl, sym, ◌∙◌, ap, subst, arith}
use Rattle.std.specs.Prelude.{unwrap_or}
use Rattle.std.proofs.lemmas.Bool.{cases_eq, ne_eqb}
use Rattle.std.proofs.lemmas.Option.{none-some, same_Some}
use Rattle.crew.specs.Log.{Entry, pieces_in}
use Rattle.crew.specs.Log.Entry.{Started, StartFailed, Fed, FeedFailed, Sealed, Reply, Died, Stopped}
use Rattle.replay_core.proofs.Attempts.{attempts-more, attempts-push, attempts-without, job-nil}
use Rattle.replay_core.proofs.Starts.{is-wanted}
use Rattle.replay_core.specs.Attempts.{attempt, job_of, without}
use Rattle.replay_core.specs.Kept.{AreAttempts}
use Rattle.replay_core.specs.declared.attempt.Attempt.{Attempt}
use Rattle.replay_supervisor.specs.Reading.{drawn_in, job_started, read}
use Rattle.replay_supervisor.specs.Steps.{AreSteps, IsDraw, IsPiece, IsSeal, IsStep, Moment, Plan, moment}
use Rattle.replay_supervisor.specs.Steps.Moment.{Idle, Feeding, Stopping}
use Rattle.honest_logs.proofs.Outs.{job-pushed, job-stayed, went}

-- each ticket that is out was drawn for a job, and each but the one that is being fed has all pieces of its job
pub record AreFed (p : Plan) (log : List Entry) : Type 0 where
  pub drawn : AreAttempts (p.first + drawn_in log) p.work.count (read p.work log).outs
  pub whole : (t job : ℕ) → job_of (read p.work log).outs t ≡ Some job → (moment p.work log ≡ Feeding t → ⊥)
      → pieces_in log t ≡ p.work.pieces job

-- a moment is one thing
pub idle_feeds : (m : Moment) (t : ℕ) → m ≡ Idle → m ≡ Feeding t → ⊥
idle_feeds m t is other = let e : Idle ≡ Feeding t = sym is ∙ other in cc

stop_feeds : (m : Moment) (s t : ℕ) → m ≡ Stopping s → m ≡ Feeding t → ⊥
stop_feeds m s t is other = let e : Stopping s ≡ Feeding t = sym is ∙ other in cc

feeds_one : (m : Moment) (s t : ℕ) → m ≡ Feeding s → m ≡ Feeding t → s ≡ t
feeds_one m s t is other = let e : Feeding s ≡ Feeding t = sym is ∙ other in cc

-- the job of a draw
drawn_job : (p : Plan) (before : List Entry) (t : ℕ) → IsDraw p before t
    → job_started p.work (read p.work before) < p.work.count
drawn_job p before t step =
    let known = (is-wanted p.work.count _ (read p.work before).outs step.job.0 step.job.1).known in
    let is : job_started p.work (read p.work before) ≡ step.job.0 =
    ap (λ (o : Option ℕ). unwrap_or o 0) step.job.1 in
    omega (arith, is, known)

-- as many tickets were drawn
drawn_as : (n m jobs : ℕ) (outs : List Attempt) → n ≡ m → AreAttempts n jobs outs → AreAttempts m jobs outs
drawn_as n m jobs outs same drawn = subst (λ (k : ℕ). AreAttempts k jobs outs) same drawn

module _ (p : Plan) (before : List Entry) (t : ℕ) (fed : AreFed p before) where
  abbrev outs : List Attempt
  outs = (read p.work before).outs

  -- a ticket that is started is fed next
  fed_started : IsDraw p before t → AreFed p (Started t ∷ before)
  unfolding read drawn_in pieces_in moment
  fed_started step =
      let job = job_started p.work (read p.work before) in
      let next : p.first + drawn_in before ≡ t = sym step.ticket in
      record {
        drawn = drawn_as (t + 1) (p.first + (1 + drawn_in before)) p.work.count (outs ++ attempt t job ∷ [])
            (omega (arith, next))
            (attempts-push t p.work.count outs job (drawn_job p before t step)
            (drawn_as (p.first + drawn_in before) t p.work.count outs next fed.drawn));
        whole = λ s j is other. fed.whole s j
            (sym (job-pushed outs t job s (λ same. other (ap Feeding same))) ∙ is)
            (idle_feeds (moment p.work before) s step.moment);
      }

  fed_start_failed : IsDraw p before t → AreFed p (StartFailed t ∷ before)
  unfolding read drawn_in pieces_in moment
  fed_start_failed step = record {
    drawn = drawn_as (p.first + drawn_in before + 1) (p.first + (1 + drawn_in before)) p.work.count outs (omega arith)
        (attempts-more (p.first + drawn_in before) p.work.count outs fed.drawn);
    whole = λ s j is other. fed.whole s j is (idle_feeds (moment p.work before) s step.moment);
  }

  -- a piece, after which the ticket may want more
  fed_piece : (piece : List ℕ) → IsPiece p before t piece → AreFed p (Fed t piece ∷ before)
  unfolding read drawn_in pieces_in moment
  fed_piece piece step = record {
    drawn = drawn_as (p.first + drawn_in before) (p.first + (0 + drawn_in before)) p.work.count outs (omega arith)
        fed.drawn;
    whole = λ s j is other.
        let apart : (t == s) ≡ false = ne_eqb t s (λ same. other (ap Feeding same)) in
        ap (λ (b : Bool). cond b (pieces_in before s ++ piece ∷ []) (pieces_in before s)) apart
        ∙ fed.whole s j is (λ now. other (ap Feeding (feeds_one (moment p.work before) t s step.moment now)));
  }

  -- a ticket that is sealed has all pieces
  fed_sealed : IsSeal p before t → AreFed p (Sealed t ∷ before)
  unfolding read drawn_in pieces_in moment
  fed_sealed step = record {
    drawn = drawn_as (p.first + drawn_in before) (p.first + (0 + drawn_in before)) p.work.count outs (omega arith)
        fed.drawn;
    whole = λ s j is other. elim (cases_eq t s) [
      | inl same ↦
          let sealed : job_of outs s ≡ Some step.job = ap (job_of outs) (sym same) ∙ step.is_job in
          ap (pieces_in before) (sym same) ∙ step.pieces
          ∙ ap p.work.pieces (same_Some step.job j (sym sealed ∙ is))
      | inr apart ↦ fed.whole s j is (λ now. apart (feeds_one (moment p.work before) t s step.moment now))
    ];
  }

  -- a ticket that is out no longer, where no other one is being fed
  fed_left : (entry : Entry) → (read p.work (entry ∷ before)).outs ≡ without t outs
      → drawn_in (entry ∷ before) ≡ drawn_in before
      → ((s : ℕ) → pieces_in (entry ∷ before) s ≡ pieces_in before s)
      → ((s : ℕ) → (t ≡ s → ⊥) → moment p.work before ≡ Feeding s → ⊥) → AreFed p (entry ∷ before)
  fed_left entry outs_are drawn_is pieces_are none_fed =
      let next = p.first + drawn_in before in
      record {
        drawn = drawn_as next (p.first + drawn_in (entry ∷ before)) p.work.count (read p.work (entry ∷ before)).outs
            (omega (arith, drawn_is))
            (subst (λ (os : List Attempt). AreAttempts next p.work.count os) (sym outs_are)
            (attempts-without next p.work.count outs t fed.drawn));
        whole = λ s j is other.
            let left : job_of (without t outs) s ≡ Some j =
            sym (ap (λ (os : List Attempt). job_of os s) outs_are) ∙ is in
            pieces_are s ∙ fed.whole s j (job-stayed next p.work.count outs t s j fed.drawn left)
            (none_fed s (went next p.work.count outs t s j fed.drawn left));
      }

-- each entry keeps it so
fed_on : (p : Plan) (before : List Entry) (entry : Entry) → IsStep p before entry → AreFed p before
    → AreFed p (entry ∷ before)
unfolding read drawn_in pieces_in
fed_on p before (Started t) step fed = fed_started p before t fed step
fed_on p before (StartFailed t) step fed = fed_start_failed p before t fed step
fed_on p before (Fed t piece) step fed = fed_piece p before t fed piece step
fed_on p before (FeedFailed t) step fed =
    fed_left p before t fed (FeedFailed t) refl (omega arith) (λ s. refl)
    (λ s apart now. apart (feeds_one (moment p.work before) t s step now))
fed_on p before (Sealed t) step fed = fed_sealed p before t fed step
fed_on p before (Reply t bytes) step fed =
    fed_left p before t fed (Reply t bytes) refl (omega arith) (λ s. refl)
    (λ s apart. idle_feeds (moment p.work before) s step.moment)
fed_on p before (Died t) step fed =
    fed_left p before t fed (Died t) refl (omega arith) (λ s. refl)
    (λ s apart. idle_feeds (moment p.work before) s step.moment)
fed_on p before (Stopped t) step fed =
    fed_left p before t fed (Stopped t) refl (omega arith) (λ s. refl)
    (λ s apart. stop_feeds (moment p.work before) t s step)

pub fed_all : (p : Plan) (log : List Entry) → AreSteps p log → AreFed p log
unfolding read
fed_all p [] steps = record {
  drawn = tt;
  whole = λ t job is other. absurd (none-some job (sym (job-nil t) ∙ is));
}
fed_all p (entry ∷ before) steps = fed_on p before entry steps.0 (fed_all p before steps.1)
