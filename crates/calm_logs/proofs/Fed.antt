-- What each ticket that is out was fed, where no feed failed.
use Rattle.std.proofs.Common.{◌≡◌, ℕ, ◌+◌, ◌<◌, ◌==◌, not, Bool, false, cond, inl, inr, List, [], ◌∷◌, ◌++◌, Option, Some, refl, sym, ◌∙◌, ap, subst, arith}
use Rattle.std.specs.Prelude.{filter, unwrap_or}
use Rattle.std.proofs.lemmas.Bool.{cases_eq, ne_eqb}
use Rattle.std.proofs.lemmas.List.{map-append}
use Rattle.std.proofs.lemmas.Option.{none-some, same_Some}
use Rattle.crew.specs.Log.{Entry, pieces_in}
use Rattle.crew.specs.Log.Entry.{Started, StartFailed, Fed, FeedFailed, Sealed, Reply, Died, Stopped}
use Rattle.inline_crew.specs.InOrder.{InOrder, outs_in}
use Rattle.replay_core.proofs.Attempts.{attempts-more, attempts-push, attempts-without, job-nil}
use Rattle.replay_core.proofs.Starts.{is-wanted}
use Rattle.replay_core.specs.Attempts.{attempt, job_of, without}
use Rattle.replay_core.specs.Kept.{AreAttempts}
use Rattle.replay_core.specs.declared.attempt.Attempt.{Attempt}
use Rattle.replay_supervisor.specs.Reading.{drawn_in, job_started, read}
use Rattle.replay_supervisor.specs.Steps.{AreSteps, IsDraw, IsPiece, IsSeal, IsStep, Moment, Plan, moment}
use Rattle.replay_supervisor.specs.Steps.Moment.{Idle, Feeding, Stopping}
use Rattle.calm_logs.proofs.Outs.{job_before, job_without, tickets, tickets_without}

-- The tickets that are out stand in the order of their starts, each was drawn for a job, and each but the one that is
-- being fed has all pieces of its job.
pub record AreFed (p : Plan) (log : List Entry) : Type 0 where
  pub order : tickets (read p.work log).outs ≡ outs_in log
  pub drawn : AreAttempts (p.first + drawn_in log) p.work.count (read p.work log).outs
  pub whole : (t job : ℕ) → job_of (read p.work log).outs t ≡ Some job → (moment p.work log ≡ Feeding t → ⊥)
      → pieces_in log t ≡ p.work.pieces job

-- a moment is one thing
pub idle_feeds : (m : Moment) (t : ℕ) → m ≡ Idle → m ≡ Feeding t → ⊥
idle_feeds m t is other = let e : Idle ≡ Feeding t = sym is ∙ other in cc

stop_feeds : (m : Moment) (s t : ℕ) → m ≡ Stopping s → m ≡ Feeding t → ⊥
stop_feeds m s t is other = let e : Stopping s ≡ Feeding t = sym is ∙ other in cc

feeds_one : (m : Moment) (s t : ℕ) → m ≡ Feeding s → m ≡ Feeding t → s ≡ t
feeds_one m s t is other = let e : Feeding s ≡ Feeding t = sym is ∙ other in cc

-- the job of a draw
drawn_job : (p : Plan) (before : List Entry) (t : ℕ) → IsDraw p before t
    → job_started p.work (read p.work before) < p.work.count
drawn_job p before t step =
    let known = (is-wanted p.work.count _ (read p.work before).outs step.job.0 step.job.1).known in
    let is : job_started p.work (read p.work before) ≡ step.job.0 =
    ap (λ (o : Option ℕ). unwrap_or o 0) step.job.1 in
    omega (arith, is, known)

-- no ticket was drawn, or one more was
drawn_same : (first drawn jobs : ℕ) (outs : List Attempt) → AreAttempts (first + drawn) jobs outs
    → AreAttempts (first + (0 + drawn)) jobs outs
drawn_same first drawn jobs outs h =
    let same : first + drawn ≡ first + (0 + drawn) = omega arith in
    subst (λ (n : ℕ). AreAttempts n jobs outs) same h

drawn_more : (first drawn jobs : ℕ) (outs : List Attempt) → AreAttempts (first + drawn) jobs outs
    → AreAttempts (first + (1 + drawn)) jobs outs
drawn_more first drawn jobs outs h =
    let next : first + drawn + 1 ≡ first + (1 + drawn) = omega arith in
    subst (λ (n : ℕ). AreAttempts n jobs outs) next (attempts-more (first + drawn) jobs outs h)

drawn_push : (first drawn jobs t job : ℕ) (outs : List Attempt) → t ≡ first + drawn → job < jobs
    → AreAttempts (first + drawn) jobs outs → AreAttempts (first + (1 + drawn)) jobs (outs ++ attempt t job ∷ [])
drawn_push first drawn jobs t job outs is known h =
    let next : first + drawn + 1 ≡ first + (1 + drawn) = omega arith in
    subst (λ (n : ℕ). AreAttempts n jobs (outs ++ attempt t job ∷ [])) next
    (subst (λ (n : ℕ). AreAttempts (first + drawn + 1) jobs (outs ++ attempt n job ∷ [])) (sym is)
    (attempts-push (first + drawn) jobs outs job known h))

-- a ticket that is started is fed next
fed_started : (p : Plan) (before : List Entry) (t : ℕ) → IsDraw p before t → AreFed p before
    → AreFed p (Started t ∷ before)
unfolding read drawn_in pieces_in moment outs_in
fed_started p before t step fed =
    let outs = (read p.work before).outs in
    let job = job_started p.work (read p.work before) in
    record {
      order = map-append (λ (a : Attempt). a.ticket) outs (attempt t job ∷ [])
          ∙ ap (λ (ts : List ℕ). ts ++ t ∷ []) fed.order;
      drawn = drawn_push p.first (drawn_in before) p.work.count t job outs step.ticket (drawn_job p before t step)
          fed.drawn;
      whole = λ s j is other. fed.whole s j
          (job_before outs t job s j (λ same. other (ap Feeding (sym same))) is)
          (idle_feeds (moment p.work before) s step.moment);
    }

fed_start_failed : (p : Plan) (before : List Entry) (t : ℕ) → IsDraw p before t → AreFed p before
    → AreFed p (StartFailed t ∷ before)
unfolding read drawn_in pieces_in moment outs_in
fed_start_failed p before t step fed = record {
  order = fed.order;
  drawn = drawn_more p.first (drawn_in before) p.work.count (read p.work before).outs fed.drawn;
  whole = λ s j is other. fed.whole s j is (idle_feeds (moment p.work before) s step.moment);
}

-- a piece, after which the ticket may want more
fed_piece : (p : Plan) (before : List Entry) (t : ℕ) (piece : List ℕ) → IsPiece p before t piece → AreFed p before
    → AreFed p (Fed t piece ∷ before)
unfolding read drawn_in pieces_in moment outs_in
fed_piece p before t piece step fed = record {
  order = fed.order;
  drawn = drawn_same p.first (drawn_in before) p.work.count (read p.work before).outs fed.drawn;
  whole = λ s j is other.
      let apart : (t == s) ≡ false = ne_eqb t s (λ same. other (ap Feeding same)) in
      ap (λ (b : Bool). cond b (pieces_in before s ++ piece ∷ []) (pieces_in before s)) apart
      ∙ fed.whole s j is (λ feeding. other (ap Feeding (feeds_one (moment p.work before) t s step.moment feeding)));
}

-- a ticket that is sealed has all pieces
fed_sealed : (p : Plan) (before : List Entry) (t : ℕ) → IsSeal p before t → AreFed p before
    → AreFed p (Sealed t ∷ before)
unfolding read drawn_in pieces_in moment outs_in
fed_sealed p before t step fed = record {
  order = fed.order;
  drawn = drawn_same p.first (drawn_in before) p.work.count (read p.work before).outs fed.drawn;
  whole = λ s j is other. elim (cases_eq t s) [
    | inl same ↦
        let sealed : job_of (read p.work before).outs s ≡ Some step.job =
        ap (job_of (read p.work before).outs) (sym same) ∙ step.is_job in
        ap (pieces_in before) (sym same) ∙ step.pieces
        ∙ ap p.work.pieces (same_Some step.job j (sym sealed ∙ is))
    | inr apart ↦ fed.whole s j is (λ feeding. apart (feeds_one (moment p.work before) t s step.moment feeding))
  ];
}

-- a ticket that is out no longer
fed_left : (p : Plan) (before : List Entry) (entry : Entry) (t : ℕ) → AreFed p before
    → (read p.work (entry ∷ before)).outs ≡ without t (read p.work before).outs
    → outs_in (entry ∷ before) ≡ filter (λ s. not (s == t)) (outs_in before)
    → drawn_in (entry ∷ before) ≡ drawn_in before
    → ((s : ℕ) → pieces_in (entry ∷ before) s ≡ pieces_in before s)
    → ((s : ℕ) → moment p.work before ≡ Feeding s → ⊥) → AreFed p (entry ∷ before)
fed_left p before entry t fed outs_are order_is drawn_is pieces_are none_fed =
    let outs = (read p.work before).outs in
    let jobs = p.work.count in
    record {
      order = ap tickets outs_are ∙ tickets_without (p.first + drawn_in before) jobs outs t fed.drawn
          ∙ ap (λ (ts : List ℕ). filter (λ s. not (s == t)) ts) fed.order ∙ sym order_is;
      drawn = subst (λ (os : List Attempt). AreAttempts (p.first + drawn_in (entry ∷ before)) jobs os) (sym outs_are)
          (subst (λ (n : ℕ). AreAttempts (p.first + n) jobs (without t outs)) (sym drawn_is)
          (attempts-without (p.first + drawn_in before) jobs outs t fed.drawn));
      whole = λ s j is other. pieces_are s ∙ fed.whole s j
          (job_without (p.first + drawn_in before) jobs outs t s j fed.drawn
          (sym (ap (λ (os : List Attempt). job_of os s) outs_are) ∙ is)) (none_fed s);
    }

-- each entry keeps it so
fed_on : (p : Plan) (before : List Entry) (entry : Entry) → IsStep p before entry → InOrder (entry ∷ before)
    → AreFed p before → AreFed p (entry ∷ before)
unfolding read drawn_in pieces_in outs_in
fed_on p before (Started t) step order fed = fed_started p before t step fed
fed_on p before (StartFailed t) step order fed = fed_start_failed p before t step fed
fed_on p before (Fed t piece) step order fed = fed_piece p before t piece step fed
fed_on p before (FeedFailed t) step order fed = absurd order
fed_on p before (Sealed t) step order fed = fed_sealed p before t step fed
fed_on p before (Reply t bytes) step order fed =
    fed_left p before (Reply t bytes) t fed refl refl (omega arith) (λ s. refl)
    (λ s. idle_feeds (moment p.work before) s step.moment)
fed_on p before (Died t) step order fed =
    fed_left p before (Died t) t fed refl refl (omega arith) (λ s. refl)
    (λ s. idle_feeds (moment p.work before) s step.moment)
fed_on p before (Stopped t) step order fed =
    fed_left p before (Stopped t) t fed refl refl (omega arith) (λ s. refl)
    (λ s. stop_feeds (moment p.work before) t s step)

-- the entries before one are in order
pub order_before : (entry : Entry) (before : List Entry) → InOrder (entry ∷ before) → InOrder before
order_before (Started t) before order = order.1
order_before (StartFailed t) before order = order.1
order_before (Fed t piece) before order = order
order_before (FeedFailed t) before order = absurd order
order_before (Sealed t) before order = order
order_before (Reply t bytes) before order = order.1
order_before (Died t) before order = order.1
order_before (Stopped t) before order = order

pub fed_all : (p : Plan) (log : List Entry) → AreSteps p log → InOrder log → AreFed p log
unfolding read outs_in
fed_all p [] steps order = record {
  order = refl;
  drawn = tt;
  whole = λ t job is other. absurd (none-some job (sym (job-nil t) ∙ is));
}
fed_all p (entry ∷ before) steps order =
    fed_on p before entry steps.0 order (fed_all p before steps.1 (order_before entry before order))
