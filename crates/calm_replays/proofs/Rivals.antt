-- In the log of work that ended no ticket is out.
use Rattle.std.proofs.Common.{◌≡◌, ◌⊎◌, ℕ, ◌+◌, ◌<◌, ◌≤◌, ◌&&◌, Bool, true, false, cond, inl, inr, List, [], ◌∷◌, ◌++◌, Option, None, Some, is_some, refl, sym, ◌∙◌, ap, subst, arith}
use Rattle.std.specs.Prelude.{is_none, slice_index_or, slice_set, unwrap_or}
use Rattle.std.proofs.lemmas.Bool.{cases_eq, eq-eqb, ne_eqb, true≢false}
use Rattle.std.proofs.lemmas.List.{get_or-set_other}
use Rattle.crew.specs.Log.{Entry}
use Rattle.crew.specs.Log.Entry.{Started, StartFailed, Fed, FeedFailed, Sealed, Reply, Died, Stopped}
use Rattle.honest_logs.proofs.Fed.{AreFed, fed_all}
use Rattle.replay_core.proofs.Attempts.{attempts-without, ticket-job, ticket-none, tickets-cons, tickets-nil, tickets-push, tickets-without, without-none}
use Rattle.replay_core.proofs.Starts.{is-wanted}
use Rattle.replay_core.specs.Attempts.{attempt, job_of, ticket_of, tickets_of, without}
use Rattle.replay_core.specs.Kept.{AreAttempts}
use Rattle.replay_core.specs.declared.attempt.Attempt.{Attempt}
use Rattle.replay_supervisor.specs.Jobs.{Places, Work}
use Rattle.replay_supervisor.specs.Outcome.{IsFinished}
use Rattle.replay_supervisor.specs.Reading.{Reading, accepted, drawn_in, job_started, read, with_reply}
use Rattle.replay_supervisor.specs.Steps.{AreSteps, IsDraw, IsStep, Moment, Plan, moment, moment_after_reply, stopping}
use Rattle.replay_supervisor.specs.Steps.Moment.{Idle, Feeding, Stopping}

-- none of a job's tickets is out, or one at most is, which is stopped next
abbrev IsLeft : Moment → List Attempt → ℕ → Type 0
IsLeft m outs job =
    (tickets_of outs job ≡ 0)
    ⊎ ((t : ℕ) × (m ≡ Stopping t) × (job_of outs t ≡ Some job) × (tickets_of outs job ≤ 1))

-- at most two tickets of a job are out, and those of a job with an accepted reply are left
record AreRivals (work : Work) (log : List Entry) : Type 0 where
  pub two : (job : ℕ) → tickets_of (read work log).outs job ≤ 2
  pub done : (job : ℕ) → is_some (accepted (read work log) job) ≡ true
      → IsLeft (moment work log) (read work log).outs job

-- a moment is one thing
idle_stops : (m : Moment) (t : ℕ) → m ≡ Idle → m ≡ Stopping t → ⊥
idle_stops m t is other = let e : Idle ≡ Stopping t = sym is ∙ other in cc

feeds_stops : (m : Moment) (s t : ℕ) → m ≡ Feeding s → m ≡ Stopping t → ⊥
feeds_stops m s t is other = let e : Feeding s ≡ Stopping t = sym is ∙ other in cc

stops_one : (m : Moment) (s t : ℕ) → m ≡ Stopping s → m ≡ Stopping t → s ≡ t
stops_one m s t is other = let e : Stopping s ≡ Stopping t = sym is ∙ other in cc

-- a ticket is out or not
known_job : (o : Option ℕ) → (o ≡ None) ⊎ ((job : ℕ) × (o ≡ Some job))
known_job None = inl refl
known_job (Some job) = inr (job, refl)

-- where a ticket went, no job has more tickets out
fewer : (outs : List Attempt) (t job : ℕ) → tickets_of (without t outs) job ≤ tickets_of outs job
fewer outs t job = elim (known_job (job_of outs t)) [
  | inl none ↦
      let same = ap (λ (os : List Attempt). tickets_of os job) (without-none outs t none) in omega (arith, same)
  | inr found ↦ let one = tickets-without outs t found.0 job found.1 in omega (arith, one)
]

-- and the job of the ticket has one fewer
one_fewer : (outs : List Attempt) (t job : ℕ) → job_of outs t ≡ Some job
    → tickets_of (without t outs) job + 1 ≡ tickets_of outs job
one_fewer outs t job is =
    let same = ap (λ (b : Bool). tickets_of (without t outs) job + cond {A = ℕ} b 1 0) (eq-eqb job job refl) in
    sym same ∙ tickets-without outs t job job is

-- a job that has no reply yet gets a ticket
pushed : (outs : List Attempt) (t j job : ℕ) → tickets_of outs j ≤ 1 → tickets_of outs job ≤ 2
    → tickets_of (outs ++ attempt t j ∷ []) job ≤ 2
pushed outs t j job few two = elim (cases_eq j job) [
  | inl same ↦
      let here = ap (λ (b : Bool). tickets_of outs job + cond {A = ℕ} b 1 0) (eq-eqb j job same) in
      let at = ap (λ (k : ℕ). tickets_of outs k) same in
      omega (arith, few, at, here, tickets-push outs t j job)
  | inr apart ↦
      let there = ap (λ (b : Bool). tickets_of outs job + cond {A = ℕ} b 1 0) (ne_eqb j job apart) in
      omega (arith, two, there, tickets-push outs t j job)
]

pushed_other : (outs : List Attempt) (t j job : ℕ) → (j ≡ job → ⊥) → tickets_of outs job ≡ 0
    → tickets_of (outs ++ attempt t j ∷ []) job ≡ 0
pushed_other outs t j job apart none =
    let there = ap (λ (b : Bool). tickets_of outs job + cond {A = ℕ} b 1 0) (ne_eqb j job apart) in
    omega (arith, none, there, tickets-push outs t j job)

module _ (p : Plan) (before : List Entry) (fed : AreFed p before) (rivals : AreRivals p.work before) where
  abbrev outs : List Attempt
  outs = (read p.work before).outs

  abbrev now : Moment
  now = moment p.work before

  abbrev IsTaken : Reading → ℕ → Type 0
  IsTaken r job = is_some (accepted r job) ≡ true

  -- where no ticket is stopped next, none is left
  none_left : ((t : ℕ) → now ≡ Stopping t → ⊥) → (job : ℕ) → IsTaken (read p.work before) job → tickets_of outs job ≡ 0
  none_left never job some = elim (rivals.done job some) [
    | inl none ↦ none
    | inr stopped ↦ absurd (never stopped.0 stopped.1)
  ]

  -- the reading is as it was
  rivals_same : (entry : Entry) → read p.work (entry ∷ before) ≡ read p.work before → ((t : ℕ) → now ≡ Stopping t → ⊥)
      → AreRivals p.work (entry ∷ before)
  rivals_same entry same never = record {
    two = λ job. subst (λ (r : Reading). tickets_of r.outs job ≤ 2) (sym same) (rivals.two job);
    done = λ job some. inl (ap (λ (r : Reading). tickets_of r.outs job) same
        ∙ none_left never job (subst (λ (r : Reading). IsTaken r job) same some));
  }

  -- a ticket that is started
  rivals_started : (t : ℕ) → IsDraw p before t → AreRivals p.work (Started t ∷ before)
  unfolding read moment
  rivals_started t step =
      let wanted = is-wanted p.work.count _ outs step.job.0 step.job.1 in
      let job = job_started p.work (read p.work before) in
      let is : job ≡ step.job.0 = ap (λ (o : Option ℕ). unwrap_or o 0) step.job.1 in
      let few : tickets_of outs job ≤ 1 = subst (λ (j : ℕ). tickets_of outs j ≤ 1) (sym is) wanted.few in
      record {
        two = λ j. pushed outs t job j few (rivals.two j);
        done = λ j some. inl (pushed_other outs t job j
            (λ same. true≢false (sym some ∙ ap (λ (k : ℕ). is_some (accepted (read p.work before) k)) (sym same ∙ is)
            ∙ wanted.undone))
            (none_left (λ s. idle_stops now s step.moment) j some));
      }

  -- a ticket that is out no longer, where no reply is accepted
  rivals_gone : (entry : Entry) (t : ℕ) → (read p.work (entry ∷ before)).outs ≡ without t outs
      → (read p.work (entry ∷ before)).replies ≡ (read p.work before).replies
      → ((s : ℕ) → now ≡ Stopping s → ⊥) → AreRivals p.work (entry ∷ before)
  rivals_gone entry t outs_are replies_are never = record {
    two = λ job.
        let are = ap (λ (os : List Attempt). tickets_of os job) outs_are in
        omega (arith, are, fewer outs t job, rivals.two job);
    done = λ job some.
        let was : IsTaken (read p.work before) job =
        subst (λ (rs : Places). is_some (slice_index_or rs job None) ≡ true) replies_are some in
        let are = ap (λ (os : List Attempt). tickets_of os job) outs_are in
        inl (omega (arith, are, fewer outs t job, none_left never job was));
  }

  -- a ticket that is stopped
  rivals_stopped : (t : ℕ) → now ≡ Stopping t → AreRivals p.work (Stopped t ∷ before)
  unfolding read moment
  rivals_stopped t step = record {
    two = λ job. omega (arith, fewer outs t job, rivals.two job);
    done = λ job some. inl (elim (rivals.done job some) [
      | inl none ↦ omega (arith, none, fewer outs t job)
      | inr stopped ↦
          let same : stopped.0 ≡ t = stops_one now stopped.0 t stopped.1 step in
          let is : job_of outs t ≡ Some job = subst (λ (s : ℕ). job_of outs s ≡ Some job) same stopped.2 in
          omega (arith, one_fewer outs t job is, stopped.3)
    ]);
  }

  -- A ticket that replied.
  module _ (t : ℕ) (bytes : List ℕ) (idle : now ≡ Idle) where
    -- a job that had its reply before
    left_before : (job : ℕ) → IsTaken (read p.work before) job → tickets_of (without t outs) job ≡ 0
    left_before job some =
        omega (arith, fewer outs t job, none_left (λ s. idle_stops now s idle) job some)

    -- the job whose reply is accepted: its other ticket is stopped next
    left_rival : (j : ℕ) → job_of outs t ≡ Some j → (rival : Option ℕ) → ticket_of (without t outs) j ≡ rival
        → IsLeft (stopping rival) (without t outs) j
    left_rival j is None none = inl (ticket-none (without t outs) j none)
    left_rival j is (Some s) some =
        let next = p.first + drawn_in before in
        let jobs = p.work.count in
        inr (
          s,
          refl,
          ticket-job next jobs (without t outs) j s (attempts-without next jobs outs t fed.drawn) some,
          omega (arith, one_fewer outs t j is, rivals.two j),
        )

    left_either : (b : Bool) (j : ℕ) → job_of outs t ≡ Some j → (job : ℕ)
        → is_some (slice_index_or (cond b (slice_set (read p.work before).replies j (Some bytes))
        (read p.work before).replies) job None) ≡ true
        → IsLeft (cond b (stopping (ticket_of (without t outs) j)) Idle) (without t outs) job
    left_either false j is job some = inl (left_before job some)
    left_either true j is job some = elim (cases_eq job j) [
      | inl same ↦ subst (λ (k : ℕ). IsLeft (stopping (ticket_of (without t outs) j)) (without t outs) k) (sym same)
          (left_rival j is (ticket_of (without t outs) j) refl)
      | inr other ↦ inl (left_before job
          (sym (ap is_some (get_or-set_other (read p.work before).replies j job (Some bytes) None other)) ∙ some))
    ]

    left_reply : (of : Option ℕ) → job_of outs t ≡ of → (job : ℕ)
        → is_some (slice_index_or (with_reply p.work (read p.work before).replies bytes of) job None) ≡ true
        → IsLeft (moment_after_reply p.work (read p.work before) t bytes of) (without t outs) job
    left_reply None is job some = inl (left_before job some)
    left_reply (Some j) is job some =
        left_either (p.work.is_good j bytes && is_none (accepted (read p.work before) j)) j is job some

    rivals_replied : AreRivals p.work (Reply t bytes ∷ before)
    unfolding read moment
    rivals_replied = record {
      two = λ job. omega (arith, fewer outs t job, rivals.two job);
      done = λ job some. left_reply (job_of outs t) refl job some;
    }

  rivals_on : (entry : Entry) → IsStep p before entry → AreRivals p.work (entry ∷ before)
  unfolding read
  rivals_on (Started t) step = rivals_started t step
  rivals_on (StartFailed t) step = rivals_same (StartFailed t) refl (λ s. idle_stops now s step.moment)
  rivals_on (Fed t piece) step = rivals_same (Fed t piece) refl (λ s. feeds_stops now t s step.moment)
  rivals_on (FeedFailed t) step = rivals_gone (FeedFailed t) t refl refl (λ s. feeds_stops now t s step)
  rivals_on (Sealed t) step = rivals_same (Sealed t) refl (λ s. feeds_stops now t s step.moment)
  rivals_on (Reply t bytes) step = rivals_replied t bytes step.moment
  rivals_on (Died t) step = rivals_gone (Died t) t refl refl (λ s. idle_stops now s step.moment)
  rivals_on (Stopped t) step = rivals_stopped t step

rivals_all : (p : Plan) (log : List Entry) → AreSteps p log → AreRivals p.work log
unfolding read
rivals_all p [] steps = record {
  two = λ job. omega (arith, tickets-nil job);
  done = λ job some. inl (tickets-nil job);
}
rivals_all p (entry ∷ before) steps =
    rivals_on p before (fed_all p before steps.1) (rivals_all p before steps.1) entry steps.0

-- where no job has a ticket out, none is out
nobody : (n m : ℕ) (outs : List Attempt) → AreAttempts n m outs → ((job : ℕ) → job < m → tickets_of outs job ≡ 0)
    → outs ≡ []
nobody n m [] are none = refl
nobody n m (a ∷ outs) are none =
    let one = ap (λ (b : Bool). cond {A = ℕ} b 1 0 + tickets_of outs a.job) (eq-eqb a.job a.job refl) in
    absurd (omega (arith, tickets-cons a outs a.job, one, none a.job are.1))

-- so none is out where the work ended
pub finished_out : (p : Plan) (log : List Entry) → AreSteps p log → IsFinished p log → (read p.work log).outs ≡ []
finished_out p log steps finished =
    let fed = fed_all p log steps in
    let rivals = rivals_all p log steps in
    nobody (p.first + drawn_in log) p.work.count (read p.work log).outs fed.drawn
    (λ job known. none_left p log fed rivals (λ t. idle_stops (moment p.work log) t finished.moment) job
    (finished.accepted job known))
