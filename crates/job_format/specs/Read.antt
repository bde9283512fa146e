-- What bytes are read as: a job, or the first breach.
use Rattle.std.specs.Prelude.{◌≡◌, ℕ, Bool, true, false, List, Result, Ok, Err}
use Rattle.byte_format.specs.Format.{Breaks, EndsInside}
use Rattle.hash_family.specs.Setting.{Setting}
use Rattle.job_format.specs.Job.{Job, Replay, Solve as SolveIt, SpellsJob, job_of}
use Rattle.job_format.specs.Given.{items_in, needs_in, sites_in}
use Rattle.job_format.specs.Places.{job_format, job_start}
use Rattle.job_format.specs.declared.fault.JobFault.{JobFault}
use Rattle.job_format.specs.declared.fault.JobFault.TheVariants.{Short, Magic, Version, Shape, Extra, Memory}
use Rattle.job_format.specs.declared.job.Job.{Job as JobEnum}
use Rattle.job_format.specs.declared.place.HeadNumbers.{HeadNumbers}
use Rattle.job_format.specs.declared.place.Place.{Place}
use Rattle.job_format.specs.declared.place.Place.TheVariants as places

-- whether a job is whole
abbrev pub is_end : Place → Bool
is_end (places.Head step h) = false
is_end (places.Count h tally) = false
is_end (places.Key h tally left) = false
is_end (places.Weight h tally left key) = false
is_end (places.ReplayEnd h tally) = true
is_end (places.Solve step n) = false
is_end (places.SolveEnd n) = true

-- bytes end inside a job: fields that stand, and then fewer bytes than stand next
pub record IsShort (bytes : List ℕ) : Type 0 where
  pub place : Place
  pub part : List ℕ
  pub ends : EndsInside job_format job_start bytes place part
  pub inside : is_end place ≡ false

-- the first breach of bytes, in their order; want of memory is none
abbrev pub BreaksJob : List ℕ → JobFault → Type 0
BreaksJob bytes Short = IsShort bytes
BreaksJob bytes Magic = Breaks job_format job_start bytes Magic
BreaksJob bytes Version = Breaks job_format job_start bytes Version
BreaksJob bytes Shape = Breaks job_format job_start bytes Shape
BreaksJob bytes Extra = Breaks job_format job_start bytes Extra
BreaksJob bytes Memory = ⊥

-- what bytes are read as
abbrev pub ReadsJob : List ℕ → Result Job JobFault → Type 0
ReadsJob bytes (Ok job) = SpellsJob job bytes
ReadsJob bytes (Err fault) = BreaksJob bytes fault

-- as a value of the code
abbrev pub read_as : Result JobEnum JobFault → Result Job JobFault
read_as (Ok job) = Ok (job_of job)
read_as (Err fault) = Err fault

-- the numbers of a sketch at the end of a replay job
abbrev pub setting_in : HeadNumbers → Setting
setting_in h = record { levels = h.levels; rows = h.rows; width = h.width; heap = h.heap; seed = h.seed }

-- the job that the bytes up to a place give, where it is whole
abbrev pub IsWhole : Place → List ℕ → Job → Type 0
IsWhole (places.Head step h) bytes job = ⊥
IsWhole (places.Count h tally) bytes job = ⊥
IsWhole (places.Key h tally left) bytes job = ⊥
IsWhole (places.Weight h tally left key) bytes job = ⊥
IsWhole (places.ReplayEnd h tally) bytes job =
    job ≡ Replay (record { number = h.job; setting = setting_in h; items = items_in bytes })
IsWhole (places.Solve step n) bytes job = ⊥
IsWhole (places.SolveEnd n) bytes job =
    job ≡ SolveIt (record {
      number = n.job;
      nodes = n.nodes;
      problem = record { sites = sites_in bytes; needs = needs_in bytes };
    })
