-- What the calls inside a turn ask for.
use Rattle.std.specs.Prelude.{◌≡◌, ℕ, length}
use Rattle.crew.specs.Crew.{CrewState}
use Rattle.replay_core.specs.Attempts.{is_out}
use Rattle.replay_core.specs.Book.{Book, is_done, ticket}
use Rattle.replay_supervisor.specs.Jobs.{JobsState}

-- the crew has the book's tickets out, and the jobs that have taken are those that are done
pub record Agrees (crew : CrewState) (jobs : JobsState) (b : Book) : Type 0 where
  pub count : length b.accounts ≡ jobs.work.count
  pub issued : crew.issued ≡ ticket b
  pub outs : (t : ℕ) → crew.is_out t ≡ is_out b.outs t
  pub marks : (job : ℕ) → jobs.has_taken job ≡ is_done b job
