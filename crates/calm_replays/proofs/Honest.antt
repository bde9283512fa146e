-- Answers are honest.
use Rattle.std.proofs.Common.{ℕ, List, [], ◌∷◌}
use Rattle.calm_logs.proofs.Searches.{answers_it}
use Rattle.child_worker.specs.Replies.{AnswersBytes, IsRefused}
use Rattle.crew.specs.Log.{AreAnswered, Entry}
use Rattle.crew.specs.Log.Entry.{Started, StartFailed, Fed, FeedFailed, Sealed, Reply, Died, Stopped}
use Rattle.honest_logs.specs.Honest.{AnswersHonestly, IsHonest}
use Rattle.job_format.specs.Job.{Replay}
use Rattle.replay_core.specs.declared.attempt.Attempt.{Attempt}
use Rattle.replay_supervisor.proofs.Honest.{honest-answered}
use Rattle.replay_supervisor.specs.Jobs.{Work}
use Rattle.replay_supervisor.specs.Reading.{AreHonest}
use Rattle.replay_supervisor.specs.Steps.{Plan, with_stops}

-- what answers in one way answers in another
pub honest_by : (work : Work) (answers also : List ℕ → List ℕ → Type 0)
    → ((job bytes : List ℕ) → answers job bytes → also job bytes) → (log : List Entry) → AreHonest work answers log
    → AreHonest work also log
honest_by work answers also by [] honest = tt
honest_by work answers also by (Started t ∷ before) honest = honest_by work answers also by before honest
honest_by work answers also by (StartFailed t ∷ before) honest = honest_by work answers also by before honest
honest_by work answers also by (Fed t piece ∷ before) honest = honest_by work answers also by before honest
honest_by work answers also by (FeedFailed t ∷ before) honest = honest_by work answers also by before honest
honest_by work answers also by (Sealed t ∷ before) honest = honest_by work answers also by before honest
honest_by work answers also by (Reply t bytes ∷ before) honest =
    (λ first. by _ bytes (honest.0 first), honest_by work answers also by before honest.1)
honest_by work answers also by (Died t ∷ before) honest = honest_by work answers also by before honest
honest_by work answers also by (Stopped t ∷ before) honest = honest_by work answers also by before honest

-- an answer of a worker is that of an honest child
pub answers_honestly : (job bytes : List ℕ) → AnswersBytes job bytes → AnswersHonestly job bytes
answers_honestly job bytes answers = λ replay spelled. answers_it (Replay replay) job bytes spelled answers

pub answered_honestly : (p : Plan) (log : List Entry) → AreAnswered AnswersBytes IsRefused log → IsHonest p log
answered_honestly p log answered =
    honest_by p.work AnswersBytes AnswersHonestly answers_honestly log
    (honest-answered p.work AnswersBytes IsRefused log answered)

-- the stops of what is out reply nothing
pub honest_stops : (p : Plan) (outs : List Attempt) (log : List Entry) → IsHonest p log
    → IsHonest p (with_stops outs log)
honest_stops p [] log honest = honest
honest_stops p (a ∷ outs) log honest = honest_stops p outs (Stopped a.ticket ∷ log) honest
