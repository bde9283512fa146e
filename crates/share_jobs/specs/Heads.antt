-- Which replay job the pieces of a share spell.
use Rattle.std.specs.Prelude.{◌≡◌, ℕ, Bool, true, false, List, length, flat_map, Option, None, Some, Result, Ok, Err, refl}
use Rattle.job_format.proofs.Spellings.{some_reading}
use Rattle.job_format.specs.Job.{Job, ReplayJob, Replay, Solve, weight_of}
use Rattle.job_format.specs.declared.fault.JobFault.{JobFault}
use Rattle.reply_format.specs.Reply.{ReplayHead, head_of}
use Rattle.solve_jobs.specs.Reading.{are_bytes, low_bytes}

-- what a reply to a job must say of it
abbrev pub head_to : ReplayJob → ReplayHead
head_to job = head_of job.number job.setting (length job.items) (weight_of job.items)

-- the pieces of a job, joined
abbrev pub joined : List (List ℕ) → List ℕ
joined pieces = flat_map (λ piece. piece) pieces

-- what a reply must say to the replay job that was read
abbrev pub head_in : Result Job JobFault → Option ReplayHead
head_in (Ok (Replay job)) = Some (head_to job)
head_in (Ok (Solve job)) = None
head_in (Err fault) = None

-- the same of the replay job that bytes spell, and None where they spell none
abbrev pub head_where : (bytes : List ℕ) (are : Bool) → are_bytes bytes ≡ are → Option ReplayHead
head_where bytes true is = head_in (some_reading bytes (low_bytes bytes is)).0
head_where bytes false is = None

unfoldable pub head_spelled : List ℕ → Option ReplayHead
head_spelled bytes = head_where bytes (are_bytes bytes) refl
