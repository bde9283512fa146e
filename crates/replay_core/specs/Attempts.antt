-- The tickets that are out, each with its job, in the order in which they were started.
use Rattle.std.specs.Prelude.{◌≡◌, ℕ, ◌≤◌, ◌==◌, ◌&&◌, not, Bool, true, false, List, [], ◌∷◌, Option, None, Some, option_map, if◌then◌else◌, count_by, find, slice_get}
use Rattle.std.specs.List.{list_any}
use Rattle.std.specs.Option.{option_or}
use Rattle.replay_core.specs.Below.{first_below}
use Rattle.replay_core.specs.declared.attempt.Attempt.{Attempt}

abbrev pub attempt : ℕ → ℕ → Attempt
attempt ticket job = record { ticket = ticket; job = job }

-- whether the ticket is out
unfoldable pub is_out : List Attempt → ℕ → Bool
is_out outs ticket = list_any (λ a. a.ticket == ticket) outs

-- the job of a ticket that is out
unfoldable pub job_of : List Attempt → ℕ → Option ℕ
job_of outs ticket = option_map (λ a. a.job) (find (λ a. a.ticket == ticket) outs)

-- the attempts but that of the ticket
unfoldable pub without : ℕ → List Attempt → List Attempt
without ticket [] = []
without ticket (a ∷ outs) = if a.ticket == ticket then outs else a ∷ without ticket outs

-- how many tickets of the job are out
unfoldable pub tickets_of : List Attempt → ℕ → ℕ
tickets_of outs job = count_by (λ a. a.job == job) outs

-- the first ticket of the job that is out
unfoldable pub ticket_of : List Attempt → ℕ → Option ℕ
ticket_of outs job = option_map (λ a. a.ticket) (find (λ a. a.job == job) outs)

-- the least of the jobs below n that isn't done and has exactly so many tickets out
unfoldable pub job_with : ℕ → (ℕ → Bool) → List Attempt → ℕ → Option ℕ
job_with n is_done outs count = first_below (λ job. not (is_done job) && tickets_of outs job == count) n

-- the job that the next start is for: the least with no ticket out, or where there is none, the least with exactly one
unfoldable pub wanted : ℕ → (ℕ → Bool) → List Attempt → Option ℕ
wanted n is_done outs = option_or (job_with n is_done outs 0) (job_with n is_done outs 1)

-- the ticket that was started first of those that are out
abbrev pub least_out : List Attempt → Option ℕ
least_out outs = option_map (λ a. a.ticket) (slice_get outs 0)

-- what the least ticket that is out is: none where none is out
abbrev pub IsLeastOut : List Attempt → Option ℕ → Type 0
IsLeastOut outs None = (t : ℕ) → is_out outs t ≡ false
IsLeastOut outs (Some least) = (is_out outs least ≡ true) × ((t : ℕ) → is_out outs t ≡ true → least ≤ t)
