-- How the log of a search is read by whoever has it.
use Rattle.std.specs.Prelude.{◌≡◌, ℕ, ◌+◌, ◌<◌, ◌≤◌, List}
use Rattle.crew.specs.Log.{Entry}
use Rattle.bound_certificate.specs.Problem.{Problem}
use Rattle.replay_core.specs.Book.{total}
use Rattle.replay_core.specs.declared.bad.Bad.{Bad}
use Rattle.replay_supervisor.specs.Jobs.{Work}
use Rattle.replay_supervisor.specs.Reading.{bad_in, stale_in}
use Rattle.solve_jobs.specs.Search.{Judges}

-- work by which such a log is read: one job, whose good replies are those with a right outcome
pub record ReadsSearch (problem : Problem) (nodes : ℕ) (work : Work) : Type 0 where
  pub one : work.count ≡ 1
  pub judges : Judges work problem nodes

-- each job has at most so many bad attempts, and fewer than 4,096 events are stale
pub record IsWithinLimits (restarts : ℕ) (work : Work) (part : List Entry) : Type 0 where
  pub few : (job : ℕ) → job < work.count → total (bad_in work part job) ≤ restarts
  pub fresh : stale_in work part < 4096

-- a job has one bad attempt more than restarts are allowed, and these are they
pub record IsOverspent (restarts : ℕ) (work : Work) (part : List Entry) (job : ℕ) (bad : Bad) : Type 0 where
  pub known : job < work.count
  pub counts : bad_in work part job ≡ bad
  pub spent : total bad ≡ restarts + 1
