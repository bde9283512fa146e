-- What each answer of a call means.
use Rattle.std.specs.Prelude.{◌≡◌, ◌≢◌, ◌⊎◌, ℕ, ◌+◌, ◌<◌, ◌≤◌, true, false, List, [], is_some, Result, Ok, Err}
use Rattle.crew.specs.Log.{Entry, told}
use Rattle.crew.specs.Crew.{CrewState}
use Rattle.replay_core.specs.Book.{total}
use Rattle.replay_core.specs.declared.bad.Bad.{Bad}
use Rattle.replay_supervisor.specs.Jobs.{JobsState, Places, Standing}
use Rattle.replay_supervisor.specs.Reading.{read, accepted, bad_in, stale_in, drawn_in}
use Rattle.replay_supervisor.specs.Steps.{Plan, moment, IsBeforeReply, IsLog, open_jobs, with_stops}
use Rattle.replay_supervisor.specs.Steps.Moment.{Idle}
use Rattle.replay_supervisor.specs.Counted.{RoseBy, crew_faults}
use Rattle.replay_supervisor.specs.declared.stop.Stop.{Stop}
use Rattle.replay_supervisor.specs.declared.stop.Stop.TheVariants as stops

-- no job has more bad attempts than restarts
abbrev pub IsUnspent : Plan → List Entry → Type 0
IsUnspent p log = (job : ℕ) → job < p.work.count → total (bad_in p.work log job) ≤ p.restarts

-- every job has its accepted reply
pub record IsFinished (p : Plan) (log : List Entry) : Type 0 where
  pub moment : moment p.work log ≡ Idle
  pub accepted : (job : ℕ) → job < p.work.count → is_some (accepted (read p.work log) job) ≡ true
  pub unspent : IsUnspent p log
  pub fresh : stale_in p.work log < 4096

-- the job has one bad attempt more than restarts, and these are they; no other job has more than restarts
pub record IsSpent (p : Plan) (old new : CrewState) (log : List Entry) (job : ℕ) (bad : Bad) : Type 0 where
  pub moment : moment p.work log ≡ Idle
  pub known : job < p.work.count
  pub counts : bad ≡ bad_in p.work log job
  pub spent : total bad ≡ p.restarts + 1
  pub others : (j : ℕ) → j < p.work.count → j ≢ job → total (bad_in p.work log j) ≤ p.restarts
  pub fresh : stale_in p.work log < 4096
  pub some_open : 0 < open_jobs (read p.work log)
  pub faults : RoseBy (crew_faults bad) old.faults new.faults

-- the 4,096th stale event came
pub record IsStale (p : Plan) (log : List Entry) : Type 0 where
  pub moment : moment p.work log ≡ Idle
  pub unspent : IsUnspent p log
  pub stale : stale_in p.work log ≡ 4096
  pub some_open : 0 < open_jobs (read p.work log)

-- why a call stopped
abbrev pub Stops : Plan → CrewState → CrewState → List Entry → Places → Stop → Type 0
Stops p old new log taken (stops.RestartsSpent job bad) =
    (taken ≡ (read p.work log).replies) × IsSpent p old new log job bad
Stops p old new log taken stops.StaleLimit = (taken ≡ (read p.work log).replies) × IsStale p log
Stops p old new log taken stops.Memory = (taken ≡ (read p.work log).replies) ⊎ IsBeforeReply p.work log taken

-- the log of a call that stopped: a log, and then each ticket that is out is stopped
pub record Stopped (p : Plan) (old new : CrewState) (part : List Entry) (taken : Places) (stop : Stop) : Type 0 where
  pub log : List Entry
  pub whole : part ≡ with_stops (read p.work log).outs log
  pub is_log : IsLog p log
  pub why : Stops p old new log taken stop

-- the log of a call that finished
pub record Finished (p : Plan) (part : List Entry) (taken : Places) : Type 0 where
  pub is_log : IsLog p part
  pub finished : IsFinished p part
  pub all : taken ≡ (read p.work part).replies

abbrev pub Answers : Plan → CrewState → CrewState → List Entry → Places → Result (Unit {0}) Stop → Type 0
Answers p old new part taken (Ok _) = Finished p part taken
Answers p old new part taken (Err why) = Stopped p old new part taken why

-- What a call did: the part of the log that it appended, and the replies that were taken, one place a job.
pub record Supervised (p : Plan) (old new : CrewState) (jobs : JobsState) (standing : Standing)
    (result : Result (Unit {0}) Stop) : Type 0 where
  pub part : List Entry
  pub log : new.log ≡ told old.log part
  pub issued : new.issued ≡ old.issued + drawn_in part
  pub faults : old.faults ≤ new.faults
  pub taken : Places
  pub stands : standing taken
  pub work : jobs.work ≡ p.work
  pub marks : (job : ℕ) → jobs.has_taken job ≡ is_some (accepted (record { outs = []; replies = taken }) job)
  pub answers : Answers p old new part taken result
  pub none_out : (t : ℕ) → new.is_out t ≡ false
