-- What the end of input says of a job.
use Rattle.std.specs.Prelude.{ℕ, List, Option, None, Some, Result, Ok, Err}
use Rattle.job_format.specs.Job.{SpellsReplay, SpellsSolve}
use Rattle.job_format.specs.Read.{BreaksJob}
use Rattle.job_format.specs.declared.fault.JobFault.{JobFault}
use Rattle.job_format.specs.declared.item.Item.{Item}
use Rattle.child_jobs.specs.Heads.{Head, ReplayHead, SolveHead}
use Rattle.child_jobs.specs.declared.end.JobEnd.{JobEnd}
use Rattle.child_jobs.specs.declared.end.JobEnd.TheVariants as ends

-- all bytes, of which this is the head and these are the items, spell a job, or come to a first breach
abbrev pub Ends : List ℕ → Option Head → List Item → Result JobEnd JobFault → Type 0
Ends bytes (Some (ReplayHead number setting)) items (Ok ends.Replay) =
    SpellsReplay (record { number = number; setting = setting; items = items }) bytes
Ends bytes (Some (ReplayHead number setting)) items (Ok (ends.Solve nodes problem)) = ⊥
Ends bytes (Some (SolveHead number)) items (Ok ends.Replay) = ⊥
Ends bytes (Some (SolveHead number)) items (Ok (ends.Solve nodes problem)) =
    SpellsSolve (record { number = number; nodes = nodes; problem = problem }) bytes
Ends bytes None items (Ok end) = ⊥
Ends bytes head items (Err fault) = BreaksJob bytes fault
