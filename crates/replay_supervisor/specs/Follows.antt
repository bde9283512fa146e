-- What a call keeps: the crew, the jobs, the book and the log tell one story.
use Rattle.std.specs.Prelude.{◌≡◌, ◌⊎◌, ℕ, ◌+◌, ◌≤◌, ◌==◌, ◌&&◌, not, false, List, [], take, Some, Result, Ok, Err, is_some, length}
use Rattle.crew.specs.Log.{Entry, told, pieces_in}
use Rattle.crew.specs.Crew.{CrewState, Fails, Leaves}
use Rattle.crew.specs.declared.event.CrewStop.{CrewStop}
use Rattle.crew.specs.declared.event.CrewStop.TheVariants as stops
use Rattle.replay_core.specs.Attempts.{is_out, job_of}
use Rattle.replay_core.specs.Book.{Book, bad_of, is_done, ticket}
use Rattle.replay_core.specs.Kept.{IsBook}
use Rattle.replay_core.specs.Next.{AllDone, IsNear, ManyStale, NoneSpent, OneSpent}
use Rattle.replay_supervisor.specs.declared.stop.Stop.{Stop}
use Rattle.replay_supervisor.specs.declared.stop.Stop.TheVariants as why
use Rattle.replay_supervisor.specs.Jobs.{JobsState, Places, Standing}
use Rattle.replay_supervisor.specs.Reading.{read, accepted, bad_in, drawn_in, events_in}
use Rattle.replay_supervisor.specs.Steps.{Plan, Moment, moment, AreSteps, IsBeforeReply, IsLog, IsWindowed}
use Rattle.replay_supervisor.specs.Matches.{Matches}
use Rattle.replay_supervisor.specs.Counted.{RoseBy, crew_faults}

-- the crew has told the log since the start, and has the book's tickets out
pub record Tells (p : Plan) (start now : CrewState) (b : Book) (log : List Entry) : Type 0 where
  pub says : now.log ≡ told start.log log
  pub issued : now.issued ≡ ticket b
  pub outs : (t : ℕ) → now.is_out t ≡ is_out b.outs t
  pub later : start.faults ≤ now.faults
  pub faults : (job : ℕ) → RoseBy (crew_faults (bad_in p.work log job)) start.faults now.faults

-- the jobs have taken the replies that the log accepts
pub record Holds (p : Plan) (jobs : JobsState) (standing : Standing) (log : List Entry) : Type 0 where
  pub work : jobs.work ≡ p.work
  pub marks : (job : ℕ) → jobs.has_taken job ≡ is_some (accepted (read p.work log) job)
  pub stands : standing (read p.work log).replies

-- the book is that of the plan and the log, which goes on from this moment
pub record Books (p : Plan) (b : Book) (log : List Entry) (m : Moment) : Type 0 where
  pub first : b.first ≡ p.first
  pub window : b.window ≡ p.window
  pub restarts : b.restarts ≡ p.restarts
  pub running : b.is_stopping ≡ false
  pub matches : Matches p.work b log
  pub steps : AreSteps p log
  pub moment : moment p.work log ≡ m
  pub fresh : (t : ℕ) → ticket b ≤ t → pieces_in log t ≡ []
  pub events : events_in log + length b.outs ≤ b.drawn + b.stale
  pub is_book : IsBook b

pub record Follows (p : Plan) (start now : CrewState) (jobs : JobsState) (standing : Standing) (b : Book)
    (m : Moment) : Type 0 where
  pub log : List Entry
  pub tells : Tells p start now b log
  pub holds : Holds p jobs standing log
  pub books : Books p b log m

-- a reply of the ticket came: the crew has the book's other tickets out
pub record Replies (ticket : ℕ) (crew : CrewState) (jobs : JobsState) (b : Book) : Type 0 where
  pub count : length b.accounts ≡ jobs.work.count
  pub outs : (t : ℕ) → crew.is_out t ≡ (not (t == ticket) && is_out b.outs t)
  pub marks : (job : ℕ) → jobs.has_taken job ≡ is_done b job

-- the same of a reply that came, which the log has not yet
pub record Replied (p : Plan) (start now : CrewState) (jobs : JobsState) (standing : Standing) (b : Book) (ticket : ℕ)
    (bytes : List ℕ) : Type 0 where
  pub before : CrewState
  pub log : List Entry
  pub tells : Tells p start before b log
  pub left : Leaves ticket (Entry.Reply ticket bytes) before now
  pub holds : Holds p jobs standing log
  pub books : Books p b log Moment.Idle
  pub full : IsWindowed p log

-- a ticket is being fed, and has these pieces
pub record Feeds (p : Plan) (start now : CrewState) (jobs : JobsState) (standing : Standing) (b : Book) (ticket : ℕ)
    (pieces : List (List ℕ)) : Type 0 where
  pub log : List Entry
  pub tells : Tells p start now b log
  pub holds : Holds p jobs standing log
  pub books : Books p b log (Moment.Feeding ticket)
  pub fed : pieces_in log ticket ≡ pieces

-- a feed or the seal of the ticket failed
pub record FeedFails (p : Plan) (start now : CrewState) (jobs : JobsState) (standing : Standing) (b : Book)
    (ticket : ℕ) : Type 0 where
  pub before : CrewState
  pub log : List Entry
  pub tells : Tells p start before b log
  pub fails : Fails (Entry.FeedFailed ticket) before.issued before now
  pub holds : Holds p jobs standing log
  pub books : Books p b log (Moment.Feeding ticket)

-- what the feeding of all pieces came to
abbrev pub FedOutcome : Plan → CrewState → CrewState → JobsState → Standing → Book → ℕ → Result (Unit {0}) CrewStop
    → Type 0
FedOutcome p start now jobs standing b ticket (Ok _) = Follows p start now jobs standing b Moment.Idle
FedOutcome p start now jobs standing b ticket (Err stops.Fault) = FeedFails p start now jobs standing b ticket
FedOutcome p start now jobs standing b ticket (Err stops.Memory) =
    (pieces : List (List ℕ)) × Feeds p start now jobs standing b ticket pieces

-- so many pieces of a job are fed to its ticket, which is out and open
pub record Feeding (ticket job count : ℕ) (old now : CrewState) (were jobs : JobsState)
    (stood standing : Standing) : Type 0 where
  pub work : jobs.work ≡ were.work
  pub outs : (t : ℕ) → now.is_out t ≡ old.is_out t
  pub is_open : now.is_sealed ticket ≡ false
  pub feeds : (p : Plan) (start : CrewState) (b : Book) → job_of b.outs ticket ≡ Some job
      → Feeds p start old were stood b ticket []
      → Feeds p start now jobs standing b ticket (take count (were.work.pieces job))

-- the plan of a book and its jobs
abbrev pub plan_of : JobsState → Book → Plan
plan_of jobs b = record { work = jobs.work; first = b.first; window = b.window; restarts = b.restarts }

-- between two turns: at most one of the limits is passed, and by one
pub record Turns (p : Plan) (start now : CrewState) (jobs : JobsState) (standing : Standing) (b : Book) : Type 0 where
  pub follows : Follows p start now jobs standing b Moment.Idle
  pub near : IsNear b.restarts b.stale b.accounts

-- a call was broken off: the log up to there, whose tickets the book has out, and the replies that were taken
pub record Halts (p : Plan) (start now : CrewState) (jobs : JobsState) (standing : Standing) (b : Book) : Type 0 where
  pub log : List Entry
  pub says : now.log ≡ told start.log log
  pub issued : now.issued ≡ p.first + drawn_in log
  pub later : start.faults ≤ now.faults
  pub outs : b.outs ≡ (read p.work log).outs
  pub is_log : IsLog p log
  pub taken : Places
  pub stands : standing taken
  pub work : jobs.work ≡ p.work
  pub marks : (job : ℕ) → jobs.has_taken job ≡ is_some (accepted (record { outs = []; replies = taken }) job)
  pub held : (taken ≡ (read p.work log).replies) ⊎ IsBeforeReply p.work log taken

-- a turn is followed by what a call keeps between two turns
abbrev pub FollowsOn : CrewState → JobsState → Standing → Book → CrewState → JobsState → Standing → Book → Type 0
FollowsOn old were stood b new jobs standing after =
    (p : Plan) (start : CrewState) → Follows p start old were stood b Moment.Idle
    → Follows p start new jobs standing after Moment.Idle

-- a call is broken off in a turn
abbrev pub HaltsAfter : CrewState → JobsState → Standing → Book → CrewState → JobsState → Standing → Book → Type 0
HaltsAfter old were stood b new jobs standing after =
    (p : Plan) (start : CrewState) → Follows p start old were stood b Moment.Idle
    → Halts p start new jobs standing after

-- the turns ended with every job done, or stopped
abbrev pub Ended : Plan → CrewState → CrewState → JobsState → Standing → Book → Result (Unit {0}) Stop → Type 0
Ended p start now jobs standing b (Ok _) =
    Follows p start now jobs standing b Moment.Idle × AllDone b × NoneSpent b.restarts b.stale b.accounts
Ended p start now jobs standing b (Err (why.RestartsSpent job bad)) =
    Follows p start now jobs standing b Moment.Idle
    × OneSpent b.restarts b.stale b.accounts job × (bad ≡ bad_of b job)
Ended p start now jobs standing b (Err why.StaleLimit) =
    Follows p start now jobs standing b Moment.Idle × ManyStale b.restarts b.stale b.accounts
Ended p start now jobs standing b (Err why.Memory) = Halts p start now jobs standing b
