-- What is known of a job once its head is there.
use Rattle.std.specs.Prelude.{◌≡◌, ℕ, List, ◌++◌, Option, None, Some}
use Rattle.hash_family.specs.Setting.{Setting, setting_of}
use Rattle.job_format.specs.Job.{IsSetting, replay_head, solve_head}
use Rattle.job_format.specs.Read.{setting_in}
use Rattle.job_format.specs.declared.place.Place.{Place}
use Rattle.job_format.specs.declared.place.Place.TheVariants as places
use Rattle.child_jobs.specs.declared.head.JobHead.{JobHead}
use Rattle.child_jobs.specs.declared.head.JobKind.{JobKind}
use Rattle.child_jobs.specs.declared.head.JobKind.TheVariants as kinds

-- a replay job of this number and with these numbers of a sketch, or a solve job of this number
pub data Head : Type 0 where
  ReplayHead : (number : ℕ) (setting : Setting) → Head
  SolveHead : (number : ℕ) → Head

abbrev pub head_by : ℕ → JobKind → Head
head_by number (kinds.Replay params) = ReplayHead number (setting_of params)
head_by number kinds.Solve = SolveHead number

-- the head that a value of the code is
abbrev pub head_of : JobHead → Head
head_of head = head_by head.job head.kind

-- the bytes of a head
abbrev pub head_bytes : Head → List ℕ
head_bytes (ReplayHead number setting) = replay_head number setting
head_bytes (SolveHead number) = solve_head number

-- numbers within their limits
abbrev pub IsHead : Head → Type 0
IsHead (ReplayHead number setting) = IsSetting setting
IsHead (SolveHead number) = Unit {0}

-- the head at a place
abbrev pub head_at : Place → Option Head
head_at (places.Head step h) = None
head_at (places.Count h tally) = Some (ReplayHead h.job (setting_in h))
head_at (places.Key h tally left) = Some (ReplayHead h.job (setting_in h))
head_at (places.Weight h tally left key) = Some (ReplayHead h.job (setting_in h))
head_at (places.ReplayEnd h tally) = Some (ReplayHead h.job (setting_in h))
head_at (places.Solve step n) = Some (SolveHead n.job)
head_at (places.SolveEnd n) = Some (SolveHead n.job)

-- what bytes say of the head: they begin with it, or with none
abbrev pub BeginsWith : List ℕ → Option Head → Type 0
BeginsWith bytes (Some head) = (rest : List ℕ) × (bytes ≡ head_bytes head ++ rest)
BeginsWith bytes None = (head : Head) (rest : List ℕ) → IsHead head → bytes ≡ head_bytes head ++ rest → ⊥
