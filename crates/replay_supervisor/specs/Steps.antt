-- Which logs a call writes.
use Rattle.std.specs.Prelude.{◌≡◌, ℕ, ◌+◌, ◌*◌, ◌<◌, ◌≤◌, ◌&&◌, min, List, [], ◌∷◌, ◌++◌, Option, Some, None, is_none, if◌then◌else◌, length, count_by}
use Rattle.crew.specs.Log.{Entry, pieces_in}
use Rattle.crew.specs.Log.Entry.{Started, StartFailed, Fed, FeedFailed, Sealed, Reply, Died, Stopped}
use Rattle.replay_core.specs.Attempts.{job_of, without, ticket_of}
use Rattle.replay_core.specs.declared.attempt.Attempt.{Attempt}
use Rattle.replay_supervisor.specs.Jobs.{Places, Work}
use Rattle.replay_supervisor.specs.Reading.{Reading, read, wanted_after, accepted, drawn_in, events_in}

-- the jobs, the first ticket, how many tickets may be out together, and how many bad attempts a job may have
pub record Plan : Type 0 where
  pub work : Work
  pub first : ℕ
  pub window : ℕ
  pub restarts : ℕ

abbrev pub plan : Work → ℕ → ℕ → ℕ → Plan
plan work first window restarts = record { work = work; first = first; window = window; restarts = restarts }

-- what may come next: anything; a piece or the seal of a ticket; the stop of a ticket
pub data Moment : Type 0 where
  Idle : Moment
  Feeding : (ticket : ℕ) → Moment
  Stopping : (ticket : ℕ) → Moment

abbrev pub stopping : Option ℕ → Moment
stopping None = Idle
stopping (Some t) = Stopping t

-- after a reply that is accepted for a job, the job's other ticket is stopped, if one is out
abbrev pub moment_after_reply : Work → Reading → ℕ → List ℕ → Option ℕ → Moment
moment_after_reply work r t bytes None = Idle
moment_after_reply work r t bytes (Some job) =
    if work.is_good job bytes && is_none (accepted r job) then stopping (ticket_of (without t r.outs) job) else Idle

unfoldable pub moment : Work → List Entry → Moment
moment work [] = Idle
moment work (Started t ∷ before) = Feeding t
moment work (StartFailed t ∷ before) = Idle
moment work (Fed t piece ∷ before) = Feeding t
moment work (FeedFailed t ∷ before) = Stopping t
moment work (Sealed t ∷ before) = Idle
moment work (Reply t bytes ∷ before) =
    moment_after_reply work (read work before) t bytes (job_of (read work before).outs t)
moment work (Died t ∷ before) = Idle
moment work (Stopped t ∷ before) = Idle

-- the next ticket is drawn for a job that is wanted, where the window has room
pub record IsDraw (p : Plan) (before : List Entry) (t : ℕ) : Type 0 where
  pub moment : moment p.work before ≡ Idle
  pub ticket : t ≡ p.first + drawn_in before
  pub room : length (read p.work before).outs < p.window
  pub job : (job : ℕ) × (wanted_after p.work (read p.work before) ≡ Some job)

-- the ticket's next piece of its job
pub record IsPiece (p : Plan) (before : List Entry) (t : ℕ) (piece : List ℕ) : Type 0 where
  pub moment : moment p.work before ≡ Feeding t
  pub job : ℕ
  pub is_job : job_of (read p.work before).outs t ≡ Some job
  pub rest : List (List ℕ)
  pub pieces : p.work.pieces job ≡ pieces_in before t ++ piece ∷ rest

-- the ticket has all pieces of its job
pub record IsSeal (p : Plan) (before : List Entry) (t : ℕ) : Type 0 where
  pub moment : moment p.work before ≡ Feeding t
  pub job : ℕ
  pub is_job : job_of (read p.work before).outs t ≡ Some job
  pub pieces : pieces_in before t ≡ p.work.pieces job

-- the number of jobs without an accepted reply
abbrev pub open_jobs : Reading → ℕ
open_jobs r = count_by (λ place. is_none place) r.replies

-- some job is open, and as many tickets are out as the window and two for each open job allow
pub record IsWindowed (p : Plan) (before : List Entry) : Type 0 where
  pub moment : moment p.work before ≡ Idle
  pub full : length (read p.work before).outs ≡ min p.window (2 * open_jobs (read p.work before))
  pub some_open : 0 < open_jobs (read p.work before)

-- an entry may come after those before it
abbrev pub IsStep : Plan → List Entry → Entry → Type 0
IsStep p before (Started t) = IsDraw p before t
IsStep p before (StartFailed t) = IsDraw p before t
IsStep p before (Fed t piece) = IsPiece p before t piece
IsStep p before (FeedFailed t) = moment p.work before ≡ Feeding t
IsStep p before (Sealed t) = IsSeal p before t
IsStep p before (Reply t bytes) = IsWindowed p before
IsStep p before (Died t) = IsWindowed p before
IsStep p before (Stopped t) = moment p.work before ≡ Stopping t

-- each entry may come after those before it
abbrev pub AreSteps : Plan → List Entry → Type 0
AreSteps p [] = Unit {0}
AreSteps p (entry ∷ before) = IsStep p before entry × AreSteps p before

-- these tickets are stopped after the log
abbrev pub with_stops : List Attempt → List Entry → List Entry
with_stops [] log = log
with_stops (a ∷ outs) log = with_stops outs (Stopped a.ticket ∷ log)

-- the newest entry is a reply, and these are the replies that were accepted before it
abbrev pub IsBeforeReply : Work → List Entry → Places → Type 0
IsBeforeReply work [] taken = ⊥
IsBeforeReply work (Reply t bytes ∷ before) taken = taken ≡ (read work before).replies
IsBeforeReply work (Started t ∷ before) taken = ⊥
IsBeforeReply work (StartFailed t ∷ before) taken = ⊥
IsBeforeReply work (Fed t piece ∷ before) taken = ⊥
IsBeforeReply work (FeedFailed t ∷ before) taken = ⊥
IsBeforeReply work (Sealed t ∷ before) taken = ⊥
IsBeforeReply work (Died t ∷ before) taken = ⊥
IsBeforeReply work (Stopped t ∷ before) taken = ⊥

-- each entry may come after those before it, and the bounds on how many there are
pub record IsLog (p : Plan) (log : List Entry) : Type 0 where
  pub steps : AreSteps p log
  pub drawn : drawn_in log ≤ p.work.count * (p.restarts + 2)
  pub events : events_in log ≤ p.work.count * (p.restarts + 2) + 4096
