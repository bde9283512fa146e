-- What each call does to a crew.
use Rattle.std.specs.Prelude.{◌≡◌, ℕ, ◌+◌, ◌≤◌, ◌==◌, ◌||◌, ◌&&◌, not, Bool, List, [], ◌∷◌, Option, Result, Ok, Err}
use Rattle.mon_io.specs.Faults.{Rose}
use Rattle.mon_io.specs.declared.fault.Memory.{Memory}
use Rattle.crew.specs.Log.{Entry, told}
use Rattle.crew.specs.declared.event.CrewStop.{CrewStop}
use Rattle.crew.specs.declared.event.CrewStop.TheVariants as stops
use Rattle.crew.specs.declared.event.Event.{Event}
use Rattle.crew.specs.declared.event.Event.TheVariants as events

-- what clauses see of a crew
pub record CrewState : Type 0 where
  pub log : Option (List Entry)  -- the newest entry first; None where it isn't told
  pub issued : ℕ  -- how many tickets were issued, which is the next one
  pub is_out : ℕ → Bool  -- whether a ticket was started and has not ended
  pub is_sealed : ℕ → Bool  -- whether a ticket is out and its job whole
  pub faults : ℕ  -- the count of faults

-- a call appended an entry, and changed neither which tickets are out nor which are sealed
pub record Notes (entry : Entry) (next : ℕ) (old new : CrewState) : Type 0 where
  pub log : new.log ≡ told old.log (entry ∷ [])
  pub issued : new.issued ≡ next
  pub out : (t : ℕ) → new.is_out t ≡ old.is_out t
  pub sealed : (t : ℕ) → new.is_sealed t ≡ old.is_sealed t
  pub faults : old.faults ≤ new.faults

-- a call failed: it appended an entry, and the count of faults rose
pub record Fails (entry : Entry) (next : ℕ) (old new : CrewState) : Type 0 where
  pub notes : Notes entry next old new
  pub rose : Rose old.faults new.faults

-- a call appended an entry, after which the ticket is neither out nor sealed; no other ticket changed
pub record Leaves (ticket : ℕ) (entry : Entry) (old new : CrewState) : Type 0 where
  pub log : new.log ≡ told old.log (entry ∷ [])
  pub issued : new.issued ≡ old.issued
  pub out : (t : ℕ) → new.is_out t ≡ (not (t == ticket) && old.is_out t)
  pub sealed : (t : ℕ) → new.is_sealed t ≡ (not (t == ticket) && old.is_sealed t)
  pub faults : old.faults ≤ new.faults

-- a call appended an entry, after which the ticket is out and not sealed; no other ticket changed
pub record Joins (ticket : ℕ) (old new : CrewState) : Type 0 where
  pub log : new.log ≡ told old.log (Entry.Started ticket ∷ [])
  pub issued : new.issued ≡ old.issued + 1
  pub out : (t : ℕ) → new.is_out t ≡ (t == ticket || old.is_out t)
  pub sealed : (t : ℕ) → new.is_sealed t ≡ (not (t == ticket) && old.is_sealed t)
  pub faults : old.faults ≤ new.faults

-- the ticket is sealed after the call
pub record Closes (ticket : ℕ) (old new : CrewState) : Type 0 where
  pub log : new.log ≡ told old.log (Entry.Sealed ticket ∷ [])
  pub issued : new.issued ≡ old.issued
  pub out : (t : ℕ) → new.is_out t ≡ old.is_out t
  pub sealed : (t : ℕ) → new.is_sealed t ≡ (t == ticket || old.is_sealed t)
  pub faults : old.faults ≤ new.faults

-- what a start did
abbrev pub Started : ℕ → CrewState → CrewState → Result (Unit {0}) CrewStop → Type 0
Started ticket old new (Ok _) = Joins ticket old new
Started ticket old new (Err stops.Fault) = Fails (Entry.StartFailed ticket) (old.issued + 1) old new
Started ticket old new (Err stops.Memory) = new ≡ old

-- what a feed did
abbrev pub Fed : ℕ → List ℕ → CrewState → CrewState → Result (Unit {0}) CrewStop → Type 0
Fed ticket piece old new (Ok _) = Notes (Entry.Fed ticket piece) old.issued old new
Fed ticket piece old new (Err stops.Fault) = Fails (Entry.FeedFailed ticket) old.issued old new
Fed ticket piece old new (Err stops.Memory) = new ≡ old

-- what a seal did
abbrev pub Sealed : ℕ → CrewState → CrewState → Result (Unit {0}) CrewStop → Type 0
Sealed ticket old new (Ok _) = Closes ticket old new
Sealed ticket old new (Err stops.Fault) = Fails (Entry.FeedFailed ticket) old.issued old new
Sealed ticket old new (Err stops.Memory) = new ≡ old

-- nothing was taken: no entry, and each ticket as it was
pub record Rests (old new : CrewState) : Type 0 where
  pub log : new.log ≡ old.log
  pub issued : new.issued ≡ old.issued
  pub out : (t : ℕ) → new.is_out t ≡ old.is_out t
  pub sealed : (t : ℕ) → new.is_sealed t ≡ old.is_sealed t
  pub faults : old.faults ≤ new.faults

-- a child died, and the count of faults rose
pub record Dies (ticket : ℕ) (old new : CrewState) : Type 0 where
  pub leaves : Leaves ticket (Entry.Died ticket) old new
  pub rose : Rose old.faults new.faults

-- what a wait gave
abbrev pub Waited : CrewState → CrewState → Result Event Memory → Type 0
Waited old new (Ok (events.Reply ticket bytes)) = Leaves ticket (Entry.Reply ticket bytes.items) old new
Waited old new (Ok (events.Died ticket)) = Dies ticket old new
Waited old new (Err _) = Rests old new
