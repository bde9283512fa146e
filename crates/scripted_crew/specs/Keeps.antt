-- What a scripted crew keeps.
use Rattle.std.specs.Prelude.{◌≡◌, ℕ, ◌+◌, ◌-◌, ◌^◌, ◌≤◌, ◌<◌, true, List, drop, length, min}
use Rattle.crew.specs.Kept.{LogState}
use Rattle.crew.specs.Log.{job_bytes}
use Rattle.roster.specs.Roster.{Listed, is_out, tickets}
use Rattle.roster.specs.Fed.{FedState, fed_to}
use Rattle.scripted_crew.specs.Script.{Deed, deeds_left, failures_in, is_listed, is_started, outs_in}

-- The log has room for the end of each ticket that is out, and says which these are, what each ticket was fed, which
-- were started, which deeds are left, and how many failures were counted.
pub record Keeps (roster : Listed) (fed : FedState) (log : LogState) (started : List ℕ) (deeds : List Deed)
    (done faults : ℕ) : Type 0 where
  pub sure : length log.entries + length roster.marks ≤ log.room
  pub numbered : length fed.jobs ≡ roster.issued
  pub order : tickets roster.marks ≡ outs_in log.entries
  pub known : (t : ℕ) → is_out roster.marks t ≡ true → t < roster.issued
  pub bytes : (t : ℕ) → fed_to fed.jobs t ≡ job_bytes log.entries t
  pub started_is : (t : ℕ) → is_listed started t ≡ is_started log.entries t
  pub issued : (t : ℕ) → is_started log.entries t ≡ true → t < roster.issued
  pub within : done ≤ length deeds
  pub left : drop done deeds ≡ deeds_left deeds log.entries
  pub counted : faults ≡ min (failures_in log.entries) (2 ^ 64 - 1)
