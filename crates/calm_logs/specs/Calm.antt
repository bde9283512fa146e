-- A supervised search of which nothing went wrong.
use Rattle.std.specs.Prelude.{◌≡◌, ℕ, ◌<◌, List}
use Rattle.crew.specs.Log.{Entry}
use Rattle.replay_core.specs.Book.{no_bad}
use Rattle.replay_supervisor.specs.Jobs.{Work}
use Rattle.replay_supervisor.specs.Reading.{bad_in, stale_in}

-- no event is stale, and no job has a bad attempt
pub record IsCalm (work : Work) (part : List Entry) : Type 0 where
  pub fresh : stale_in work part ≡ 0
  pub none_bad : (job : ℕ) → job < work.count → bad_in work part job ≡ no_bad
