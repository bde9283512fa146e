-- What the accepted replies of a log answer.
use Rattle.std.proofs.Common.{◌≡◌, ℕ, true, List, [], ◌∷◌, Option, sym, subst}
use Rattle.crew.specs.Log.{Entry}
use Rattle.crew.specs.Log.Entry.{Started, StartFailed, Fed, FeedFailed, Sealed, Reply, Died, Stopped}
use Rattle.replay_supervisor.specs.Reading.{AreHonest, is_first_good, read}
use Rattle.replay_supervisor.specs.Steps.{AreSteps, IsStep, Plan, moment}
use Rattle.solve_phase.specs.Phase.{joined}
use Rattle.honest_logs.proofs.Accepted.{AreAccepted, IfFirst, accepted_none, accepted_on}
use Rattle.honest_logs.proofs.Fed.{AreFed, fed_all, idle_feeds}

module _ (p : Plan) (answers : List ℕ → List ℕ → Type 0) where
  -- bytes answer the pieces of a job
  abbrev pub AnswersJob : ℕ → List ℕ → Type 0
  AnswersJob job bytes = answers (joined (p.work.pieces job)) bytes

  -- a reply that is accepted answers the pieces of its job, where it answers what its ticket was fed
  first_answers : (before : List Entry) (entry : Entry) → IsStep p before entry → AreFed p before
      → AreHonest p.work answers (entry ∷ before) → IfFirst p.work AnswersJob before entry
  first_answers before (Started t) step fed honest = tt
  first_answers before (StartFailed t) step fed honest = tt
  first_answers before (Fed t piece) step fed honest = tt
  first_answers before (FeedFailed t) step fed honest = tt
  first_answers before (Sealed t) step fed honest = tt
  first_answers before (Reply t bytes) step fed honest = λ job is first.
      subst (λ (pieces : List (List ℕ)). answers (joined pieces) bytes)
      (fed.whole t job is (idle_feeds (moment p.work before) t step.moment))
      (honest.0 (subst (λ (of : Option ℕ). is_first_good p.work (read p.work before) bytes of ≡ true) (sym is) first))
  first_answers before (Died t) step fed honest = tt
  first_answers before (Stopped t) step fed honest = tt

  -- the entries before one are honest
  honest_before : (entry : Entry) (before : List Entry) → AreHonest p.work answers (entry ∷ before)
      → AreHonest p.work answers before
  honest_before (Started t) before honest = honest
  honest_before (StartFailed t) before honest = honest
  honest_before (Fed t piece) before honest = honest
  honest_before (FeedFailed t) before honest = honest
  honest_before (Sealed t) before honest = honest
  honest_before (Reply t bytes) before honest = honest.1
  honest_before (Died t) before honest = honest
  honest_before (Stopped t) before honest = honest

  pub accepted_answers : (log : List Entry) → AreSteps p log → AreHonest p.work answers log
      → AreAccepted p.work AnswersJob log
  accepted_answers [] steps honest = accepted_none p.work AnswersJob
  accepted_answers (entry ∷ before) steps honest =
      accepted_on p.work AnswersJob before entry
      (first_answers before entry steps.0 (fed_all p before steps.1) honest)
      (accepted_answers before steps.1 (honest_before entry before honest))
