-- Tickets that are stopped one after another.
use Rattle.std.specs.Prelude.{◌≡◌, ℕ, false, ◌+◌, ◌≤◌, List, Option, length}
use Rattle.crew.specs.Log.{Entry, told}
use Rattle.crew.specs.Crew.{CrewState}
use Rattle.replay_core.specs.Attempts.{is_out}
use Rattle.replay_core.specs.Book.{Book}
use Rattle.replay_core.specs.Kept.{IsBook}
use Rattle.replay_supervisor.specs.Steps.{with_stops}

-- so many turns were made, and the rest of the tickets is still to be stopped
pub record StopsRest (turns : ℕ) (old now : CrewState) (was b : Book) : Type 0 where
  pub few : length b.outs + turns ≤ 32
  pub outs : (t : ℕ) → now.is_out t ≡ is_out b.outs t
  pub is_book : IsBook b
  pub issued : now.issued ≡ old.issued
  pub faults : old.faults ≤ now.faults
  pub tells : (start : Option (List Entry)) (log : List Entry) → old.log ≡ told start log
      → (so_far : List Entry) × (now.log ≡ told start so_far) × (with_stops b.outs so_far ≡ with_stops was.outs log)

-- each ticket of the book that was out is stopped
pub record IsStopped (old new : CrewState) (b : Book) : Type 0 where
  pub none_out : (t : ℕ) → new.is_out t ≡ false
  pub tells : (start : Option (List Entry)) (log : List Entry) → old.log ≡ told start log
      → new.log ≡ told start (with_stops b.outs log)
  pub issued : new.issued ≡ old.issued
  pub faults : old.faults ≤ new.faults
