-- The book of attempts is what the log says.
use Rattle.std.specs.Prelude.{◌≡◌, ℕ, List, is_some, length}
use Rattle.crew.specs.Log.{Entry}
use Rattle.replay_core.specs.Book.{Book, is_done, bad_of}
use Rattle.replay_supervisor.specs.Jobs.{Work}
use Rattle.replay_supervisor.specs.Reading.{read, accepted, bad_in, stale_in, drawn_in}

pub record Matches (work : Work) (b : Book) (log : List Entry) : Type 0 where
  pub count : length b.accounts ≡ work.count
  pub outs : b.outs ≡ (read work log).outs
  pub dones : (job : ℕ) → is_done b job ≡ is_some (accepted (read work log) job)
  pub bads : (job : ℕ) → bad_of b job ≡ bad_in work log job
  pub stale : b.stale ≡ stale_in work log
  pub drawn : b.drawn ≡ drawn_in log
