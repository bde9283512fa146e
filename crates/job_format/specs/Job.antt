-- What a job is, and how it is spelled in bytes. Numbers stand with the low byte first.
use Rattle.std.specs.Prelude.{◌≡◌, ◌≤◌, ◌<◌, ◌^◌, ℕ, List, [], ◌∷◌, ◌++◌, length, sum_by, All, IsTrue}
use Rattle.std.specs.List.{flat_map, AllByRecursion}
use Rattle.byteorder.specs.Endian.{little_bytes}
use Rattle.bound_certificate.specs.Limits.{IsWithin}
use Rattle.bound_certificate.specs.Problem.{Problem}
use Rattle.bound_certificate.specs.declared.need.Need.{Need}
use Rattle.bound_certificate.specs.declared.site.Site.{Site}
use Rattle.byte_format.specs.Keys.{key_bytes}
use Rattle.flow_keys.specs.Key.{IsKey}
use Rattle.hash_family.specs.Limits.{are_within}
use Rattle.hash_family.specs.Setting.{Setting, setting_of}
use Rattle.job_format.specs.declared.item.Item.{Item}
use Rattle.job_format.specs.declared.job.Job.{Job as JobEnum}
use Rattle.job_format.specs.declared.job.Job.TheVariants as variants

-- sketch these items with these numbers
pub record ReplayJob : Type 0 where
  pub number : ℕ
  pub setting : Setting
  pub items : List Item

-- place the needs of this problem, by a search of so many nodes
pub record SolveJob : Type 0 where
  pub number : ℕ
  pub nodes : ℕ
  pub problem : Problem

pub data Job : Type 0 where
  Replay : ReplayJob → Job
  Solve : SolveJob → Job

-- the job that a value of the code is
abbrev pub job_of : JobEnum → Job
job_of (variants.Replay job params items) = Replay (record { number = job; setting = setting_of params; items = items })
job_of (variants.Solve job nodes problem) = Solve (record { number = job; nodes = nodes; problem = problem })

-- the most items of a frame, the most items of a job, and the most that they weigh together
abbrev pub frame_limit : ℕ
frame_limit = 4096

abbrev pub item_limit : ℕ
item_limit = 1048576

abbrev pub weight_limit : ℕ
weight_limit = 2 ^ 44

-- the weights of items together
abbrev pub weight_of : List Item → ℕ
weight_of items = sum_by (λ item. item.weight) items

-- a valid key, and a weight of four bytes
pub record IsItem (item : Item) : Type 0 where
  pub key : IsKey item.key
  pub weight : item.weight < 2 ^ 32

-- numbers of a sketch that fit into their fields
pub record IsSetting (setting : Setting) : Type 0 where
  pub within : IsTrue (are_within setting.levels setting.rows setting.width setting.heap)
  pub seed : setting.seed < 2 ^ 64

-- a replay job within its limits
pub record IsReplayJob (job : ReplayJob) : Type 0 where
  pub number : job.number < 2 ^ 32
  pub setting : IsSetting job.setting
  pub each : All IsItem job.items
  pub few : length job.items ≤ item_limit
  pub light : weight_of job.items ≤ weight_limit

-- numbers of a site, and of a need, that fit into their fields
pub record IsSite (site : Site) : Type 0 where
  pub capacity : site.capacity < 2 ^ 32
  pub opening : site.opening < 2 ^ 32
  pub unit : site.unit < 2 ^ 16

abbrev pub IsLoad : Need → Type 0
IsLoad need = need.load < 2 ^ 16

-- a solve job within its limits
pub record IsSolveJob (job : SolveJob) : Type 0 where
  pub number : job.number < 2 ^ 32
  pub some : 1 ≤ job.nodes
  pub few : job.nodes ≤ 4096
  pub within : IsWithin job.problem.sites job.problem.needs
  pub sites : All IsSite job.problem.sites
  pub loads : All IsLoad job.problem.needs

-- a job within its limits
abbrev pub IsJob : Job → Type 0
IsJob (Replay job) = IsReplayJob job
IsJob (Solve job) = IsSolveJob job

-- items cut into frames: none is empty, and each but the last is full
abbrev pub IsFrame : List Item → Type 0
IsFrame frame = (1 ≤ length frame) × (length frame ≤ frame_limit)

abbrev pub IsFull : List Item → Type 0
IsFull frame = length frame ≡ frame_limit

abbrev pub AreFull : List (List Item) → Type 0
AreFull [] = Unit {0}
AreFull (frame ∷ []) = Unit {0}
AreFull (frame ∷ next ∷ frames) = IsFull frame × AreFull (next ∷ frames)

pub record AreFrames (frames : List (List Item)) (items : List Item) : Type 0 where
  pub all : flat_map (λ frame. frame) frames ≡ items
  pub each : AllByRecursion IsFrame frames
  pub full : AreFull frames

-- UMJB, and the version
abbrev pub front_bytes : List ℕ
front_bytes = 0x55 ∷ 0x4d ∷ 0x4a ∷ 0x42 ∷ 1 ∷ []

-- the numbers of a sketch
abbrev pub setting_bytes : Setting → List ℕ
setting_bytes setting =
    (setting.levels ∷ []) ++ ((setting.rows ∷ [])
    ++ (little_bytes 2 setting.width ++ (little_bytes 2 setting.heap ++ little_bytes 8 setting.seed)))

-- the head of a replay job: kind 0, its number, and the numbers of the sketch
abbrev pub replay_head : ℕ → Setting → List ℕ
replay_head number setting = front_bytes ++ ((0 ∷ []) ++ (little_bytes 4 number ++ setting_bytes setting))

-- the eleven words of the key, and the weight
abbrev pub item_bytes : Item → List ℕ
item_bytes item = key_bytes item.key ++ little_bytes 4 item.weight

-- how many items, and these
abbrev pub frame_bytes : List Item → List ℕ
frame_bytes items = little_bytes 2 (length items) ++ flat_map item_bytes items

-- a replay job: its head, its frames, and a count of 0
pub record SpellsReplay (job : ReplayJob) (bytes : List ℕ) : Type 0 where
  pub within : IsReplayJob job
  pub frames : List (List Item)
  pub framed : AreFrames frames job.items
  pub parts : bytes ≡ replay_head job.number job.setting ++ (flat_map frame_bytes frames ++ little_bytes 2 0)

-- the head of a solve job: kind 1, and its number
abbrev pub solve_head : ℕ → List ℕ
solve_head number = front_bytes ++ ((1 ∷ []) ++ little_bytes 4 number)

-- capacity, cost of opening, and cost for a unit of load
abbrev pub site_bytes : Site → List ℕ
site_bytes site = little_bytes 4 site.capacity ++ (little_bytes 4 site.opening ++ little_bytes 2 site.unit)

-- load, how many sites its via has, and these
abbrev pub need_bytes : Need → List ℕ
need_bytes need = little_bytes 2 need.load ++ ((length need.via ∷ []) ++ need.via)

-- how many sites, these, how many needs, and these
abbrev pub problem_bytes : Problem → List ℕ
problem_bytes problem =
    (length problem.sites ∷ []) ++ (flat_map site_bytes problem.sites
    ++ ((length problem.needs ∷ []) ++ flat_map need_bytes problem.needs))

-- a solve job: its head, the nodes of its search, and its problem
pub record SpellsSolve (job : SolveJob) (bytes : List ℕ) : Type 0 where
  pub within : IsSolveJob job
  pub parts : bytes ≡ solve_head job.number ++ (little_bytes 2 job.nodes ++ problem_bytes job.problem)

-- bytes spell a job
abbrev pub SpellsJob : Job → List ℕ → Type 0
SpellsJob (Replay job) bytes = SpellsReplay job bytes
SpellsJob (Solve job) bytes = SpellsSolve job bytes
