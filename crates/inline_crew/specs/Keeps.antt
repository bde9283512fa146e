-- What an inline crew keeps.
use Rattle.std.specs.Prelude.{◌≡◌, ℕ, ◌+◌, ◌≤◌, ◌<◌, true, [], length}
use Rattle.crew.specs.Kept.{LogState}
use Rattle.crew.specs.Log.{pieces_in, job_bytes}
use Rattle.roster.specs.Roster.{Listed, is_out, tickets}
use Rattle.inline_crew.specs.InOrder.{outs_in}
use Rattle.roster.specs.Fed.{FedState, fed_to}

-- The log has room for the end of each ticket that is out, and says which these are and what each of them was fed.
pub record Keeps (roster : Listed) (fed : FedState) (log : LogState) : Type 0 where
  pub sure : length log.entries + length roster.marks ≤ log.room
  pub numbered : length fed.jobs ≡ roster.issued
  pub order : tickets roster.marks ≡ outs_in log.entries
  pub known : (t : ℕ) → is_out roster.marks t ≡ true → t < roster.issued
  pub bytes : (t : ℕ) → is_out roster.marks t ≡ true → fed_to fed.jobs t ≡ job_bytes log.entries t
  pub fresh : (t : ℕ) → roster.issued ≤ t → pieces_in log.entries t ≡ []
