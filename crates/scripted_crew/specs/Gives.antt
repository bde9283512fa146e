-- What an act gives.
use Rattle.std.specs.Prelude.{◌≡◌, ℕ, List, Option, None, Some}
use Rattle.crew.specs.declared.event.Event.{Event}
use Rattle.crew.specs.declared.event.Event.TheVariants as events
use Rattle.roster.specs.Fed.{fed_to}
use Rattle.scripted_crew.specs.Script.{Deed}

-- the event is the ticket's answer to the job, or its death where the job has none
abbrev pub IsAnswer : (List ℕ → List ℕ → Type 0) → (List ℕ → Type 0) → ℕ → List ℕ → Event → Type 0
IsAnswer answers refuses ticket job (events.Reply t bytes) = (t ≡ ticket) × answers job bytes.items
IsAnswer answers refuses ticket job (events.Died t) = (t ≡ ticket) × refuses job

-- the event is that of the deed, or where there is none the answer of the oldest ticket
abbrev pub Gives : (List ℕ → List ℕ → Type 0) → (List ℕ → Type 0) → Option Deed → ℕ → List (List ℕ) → Event → Type 0
Gives answers refuses None oldest jobs event = IsAnswer answers refuses oldest (fed_to jobs oldest) event
Gives answers refuses (Some (Deed.Answer x)) oldest jobs event = IsAnswer answers refuses x (fed_to jobs x) event
Gives answers refuses (Some (Deed.Give x given)) oldest jobs (events.Reply t bytes) = (t ≡ x) × (bytes.items ≡ given)
Gives answers refuses (Some (Deed.Give x given)) oldest jobs (events.Died t) = ⊥
Gives answers refuses (Some (Deed.Die x)) oldest jobs (events.Reply t bytes) = ⊥
Gives answers refuses (Some (Deed.Die x)) oldest jobs (events.Died t) = t ≡ x
