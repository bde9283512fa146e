-- A supervised log of a crew that answers in order is calm, where no job is refused, and each answer is good.
use Rattle.std.proofs.Common.{◌≡◌, ℕ, ◌+◌, ◌<◌, ◌≤◌, ◌==◌, ◌&&◌, not, Bool, true, false, cond, inl, inr, List, [], ◌∷◌, length, Option, Some, is_some, refl, sym, ◌∙◌, ap, subst, arith}
use Rattle.std.specs.Prelude.{flat_map, slice_get}
use Rattle.std.proofs.lemmas.Bool.{and_left, and_right, cases_Bool, cond-false, eqb-true, not_from_true}
use Rattle.std.proofs.lemmas.List.{length-map}
use Rattle.crew.specs.Log.{AreAnswered, Entry, pieces_in}
use Rattle.crew.specs.Log.Entry.{Started, StartFailed, Fed, FeedFailed, Sealed, Reply, Died, Stopped}
use Rattle.inline_crew.specs.InOrder.{InOrder, outs_in}
use Rattle.replay_core.proofs.Attempts.{job-known, out-job}
use Rattle.replay_core.specs.Attempts.{job_of}
use Rattle.replay_core.specs.Book.{more}
use Rattle.replay_core.specs.declared.attempt.Attempt.{Attempt}
use Rattle.replay_core.specs.declared.bad.Bad.{Bad}
use Rattle.replay_core.specs.declared.bad.Kind.TheVariants as kinds
use Rattle.replay_supervisor.specs.Jobs.{Work}
use Rattle.replay_supervisor.specs.Reading.{bad_in, count_entry, drawn_in, is_job, is_stale, read, stale_in}
use Rattle.replay_supervisor.specs.Steps.{AreSteps, IsStep, Plan, moment, with_stops}
use Rattle.replay_supervisor.specs.Steps.Moment.{Idle}
use Rattle.calm_logs.specs.Calm.{IsCalm}
use Rattle.calm_logs.proofs.Fed.{AreFed, fed_all, idle_feeds, order_before}
use Rattle.calm_logs.proofs.Outs.{first_job, tickets}

-- what is fed of a job is not refused, and each answer to it is good
pub record IsServed (work : Work) (answers : List ℕ → List ℕ → Type 0) (refuses : List ℕ → Type 0) : Type 0 where
  pub taken : (job : ℕ) → job < work.count → refuses (flat_map (λ piece. piece) (work.pieces job)) → ⊥
  pub good : (job : ℕ) (bytes : List ℕ) → job < work.count
      → answers (flat_map (λ piece. piece) (work.pieces job)) bytes → work.is_good job bytes ≡ true

-- a ticket is out, and has all pieces of its job
record IsWhole (p : Plan) (before : List Entry) (t : ℕ) : Type 0 where
  pub job : ℕ
  pub is_job : job_of (read p.work before).outs t ≡ Some job
  pub known : job < p.work.count
  pub pieces : pieces_in before t ≡ p.work.pieces job

-- that of an event
whole_first : (p : Plan) (before : List Entry) (t : ℕ) → AreFed p before → moment p.work before ≡ Idle
    → slice_get (outs_in before) 0 ≡ Some t → IsWhole p before t
whole_first p before t fed idle is =
    let outs = (read p.work before).outs in
    let found = first_job outs t (ap (λ (ts : List ℕ). slice_get ts 0) fed.order ∙ is) in
    record {
      job = found.0;
      is_job = found.1;
      known = job-known (p.first + drawn_in before) p.work.count outs t found.0 fed.drawn found.1;
      pieces = fed.whole t found.0 found.1 (idle_feeds (moment p.work before) t idle);
    }

-- an entry is neither stale nor a bad attempt
record IsQuiet (work : Work) (before : List Entry) (entry : Entry) : Type 0 where
  pub fresh : is_stale (read work before) entry ≡ false
  pub none_bad : (job : ℕ) (bad : Bad) → count_entry work (read work before) entry job bad ≡ bad

-- a reply is bad for no job, where it is good for the job of its ticket
never_bad : (job other : ℕ) (is_good : ℕ → Bool) → is_good job ≡ true → (job == other && not (is_good other)) ≡ false
never_bad job other is_good good = elim (cases_Bool (job == other)) [
  | inl same ↦ and_right (job == other) (not (is_good other))
      (not_from_true (is_good other) (ap is_good (sym (eqb-true job other same)) ∙ good))
  | inr apart ↦ and_left (job == other) (not (is_good other)) apart
]

quiet_reply : (p : Plan) (before : List Entry) (t : ℕ) (bytes : List ℕ) (w : IsWhole p before t)
    → p.work.is_good w.job bytes ≡ true → IsQuiet p.work before (Reply t bytes)
quiet_reply p before t bytes w good =
    let outs = (read p.work before).outs in
    record {
      fresh = ap (λ (b : Bool). not b) (out-job outs t ∙ ap (λ (o : Option ℕ). is_some o) w.is_job);
      none_bad = λ job bad.
          let never = ap (λ (o : Option ℕ). is_job o job && not (p.work.is_good job bytes)) w.is_job
          ∙ never_bad w.job job (λ j. p.work.is_good j bytes) good in
          cond-false (is_job (job_of outs t) job && not (p.work.is_good job bytes)) (more kinds.Reply bad) bad never;
    }

module _ (p : Plan) (answers : List ℕ → List ℕ → Type 0) (refuses : List ℕ → Type 0)
    (served : IsServed p.work answers refuses) (few : p.window ≤ 64) where
  quiet : (before : List Entry) (entry : Entry) → AreFed p before → IsStep p before entry → InOrder (entry ∷ before)
      → AreAnswered answers refuses (entry ∷ before) → IsQuiet p.work before entry
  quiet before (Started t) fed step order answered = record { fresh = refl; none_bad = λ job bad. refl }
  quiet before (StartFailed t) fed step order answered =
      let outs = (read p.work before).outs in
      let count : length (tickets outs) ≡ length outs = length-map outs (λ (a : Attempt). a.ticket) in
      let same : length (tickets outs) ≡ length (outs_in before) = ap (λ (ts : List ℕ). length ts) fed.order in
      absurd (omega (arith, count, same, order.0, step.room, few))
  quiet before (Fed t piece) fed step order answered = record { fresh = refl; none_bad = λ job bad. refl }
  quiet before (FeedFailed t) fed step order answered = absurd order
  quiet before (Sealed t) fed step order answered = record { fresh = refl; none_bad = λ job bad. refl }
  quiet before (Reply t bytes) fed step order answered =
      let w = whole_first p before t fed step.moment order.0 in
      quiet_reply p before t bytes w (served.good w.job bytes w.known
      (subst (λ (pieces : List (List ℕ)). answers (flat_map (λ piece. piece) pieces) bytes) w.pieces answered.0))
  quiet before (Died t) fed step order answered =
      let w = whole_first p before t fed step.moment order.0 in
      absurd (served.taken w.job w.known
      (subst (λ (pieces : List (List ℕ)). refuses (flat_map (λ piece. piece) pieces)) w.pieces answered.0))
  quiet before (Stopped t) fed step order answered = record { fresh = refl; none_bad = λ job bad. refl }

-- the entries before one are answered
pub answered_before : (answers : List ℕ → List ℕ → Type 0) (refuses : List ℕ → Type 0) (entry : Entry)
    (before : List Entry) → AreAnswered answers refuses (entry ∷ before) → AreAnswered answers refuses before
answered_before answers refuses (Started t) before answered = answered
answered_before answers refuses (StartFailed t) before answered = answered
answered_before answers refuses (Fed t piece) before answered = answered
answered_before answers refuses (FeedFailed t) before answered = answered
answered_before answers refuses (Sealed t) before answered = answered
answered_before answers refuses (Reply t bytes) before answered = answered.1
answered_before answers refuses (Died t) before answered = answered.1
answered_before answers refuses (Stopped t) before answered = answered

-- one quiet entry more
calm_on : (work : Work) (before : List Entry) (entry : Entry) → IsQuiet work before entry → IsCalm work before
    → IsCalm work (entry ∷ before)
unfolding stale_in bad_in
calm_on work before entry entry_quiet calm = record {
  fresh = omega (arith, ap (λ (b : Bool). cond {A = ℕ} b 1 0) entry_quiet.fresh, calm.fresh);
  none_bad = λ job known. entry_quiet.none_bad job (bad_in work before job) ∙ calm.none_bad job known;
}

pub calm_steps : (p : Plan) (answers : List ℕ → List ℕ → Type 0) (refuses : List ℕ → Type 0) (log : List Entry)
    → IsServed p.work answers refuses → p.window ≤ 64 → AreSteps p log → InOrder log
    → AreAnswered answers refuses log → IsCalm p.work log
unfolding stale_in bad_in
calm_steps p answers refuses [] served few steps order answered = record {
  fresh = refl;
  none_bad = λ job known. refl;
}
calm_steps p answers refuses (entry ∷ before) served few steps order answered =
    let earlier = order_before entry before order in
    calm_on p.work before entry
    (quiet p answers refuses served few before entry (fed_all p before steps.1 earlier) steps.0 order answered)
    (calm_steps p answers refuses before served few steps.1 earlier
    (answered_before answers refuses entry before answered))

-- what holds of a log whose outs are then stopped holds of the log before
pub order_under : (outs : List Attempt) (log : List Entry) → InOrder (with_stops outs log) → InOrder log
order_under [] log order = order
order_under (a ∷ outs) log order = order_under outs (Stopped a.ticket ∷ log) order

pub answered_under : (answers : List ℕ → List ℕ → Type 0) (refuses : List ℕ → Type 0) (outs : List Attempt)
    (log : List Entry) → AreAnswered answers refuses (with_stops outs log) → AreAnswered answers refuses log
answered_under answers refuses [] log answered = answered
answered_under answers refuses (a ∷ outs) log answered =
    answered_under answers refuses outs (Stopped a.ticket ∷ log) answered
