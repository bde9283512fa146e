-- What a spelling of a job leads to.
use Rattle.std.proofs.Common.{◌≡◌, ◌≤◌, ℕ, ◌+◌, List, [], ◌∷◌, ◌++◌, length, All, refl, sym, ◌∙◌, ap, subst, arith, append-nil}
use Rattle.std.proofs.lemmas.List.Elements.{recursion_from_All}
use Rattle.bound_certificate.specs.Limits.{IsNeed, IsWithin}
use Rattle.bound_certificate.specs.declared.need.Need.{Need}
use Rattle.bound_certificate.specs.declared.site.Site.{Site}
use Rattle.byteorder.specs.Endian.{little_bytes}
use Rattle.byte_format.specs.Format.{At, reached}
use Rattle.byte_format.proofs.Numbers.{number_4}
use Rattle.job_format.specs.Job.{IsItem, IsLoad, IsSite, IsSolveJob, Job, Replay, Solve as SolveIt, ReplayJob, SolveJob, SpellsJob, SpellsReplay, SpellsSolve, problem_bytes, weight_of}
use Rattle.job_format.specs.Places.{job_format, job_start, solve_start}
use Rattle.job_format.specs.Read.{IsWhole}
use Rattle.job_format.specs.declared.item.Item.{Item}
use Rattle.job_format.specs.declared.place.HeadNumbers.{HeadNumbers}
use Rattle.job_format.specs.declared.place.Place.{Place}
use Rattle.job_format.specs.declared.place.Place.TheVariants.{Count, ReplayEnd, Solve, SolveEnd}
use Rattle.job_format.specs.declared.place.SolveNumbers.{SolveNumbers}
use Rattle.job_format.specs.declared.place.SolveStep.TheVariants as solves
use Rattle.job_format.specs.declared.place.Tally.{Tally}
use Rattle.job_format.proofs.Frames.{all_of, close_walks, frames_walk}
use Rattle.job_format.proofs.Heads.{no_items, numbers_of, read_back, replay_head_walks, solve_head_walks}
use Rattle.job_format.proofs.Solves.{count_walks, needs_count_walks, needs_walk, nodes_walks, sites_walk}
use Rattle.job_format.proofs.Walks.{Walks, chain, ending, giving, starting}

-- a spelling of a replay job
replay_walks : (job : ReplayJob) (bytes : List ℕ) → SpellsReplay job bytes
    → Walks job_start bytes
    (ReplayEnd (numbers_of job.number job.setting) (record { items = length job.items; weight = weight_of job.items }))
    job.items [] []
replay_walks job bytes spells =
    let h : HeadNumbers = numbers_of job.number job.setting in
    let tally : Tally = record { items = length job.items; weight = weight_of job.items } in
    let all : all_of spells.frames ≡ job.items = spells.framed.all in
    let frames =
    frames_walk h spells.frames no_items (length job.items) (weight_of job.items) spells.framed.each spells.framed.full
    (subst (λ (l : List Item). All IsItem l) (sym all) spells.within.each) refl
    (ap (λ (l : List Item). 0 + length l) all ∙ omega arith) spells.within.few
    (ap (λ (l : List Item). 0 + weight_of l) all ∙ omega arith) spells.within.light in
    let number : Count (numbers_of (read_back job.number) job.setting) no_items ≡ Count h no_items =
    ap (λ (n : ℕ). Count (numbers_of n job.setting) no_items) (number_4 job.number spells.within.number) in
    starting
    (giving
    (chain (ending (replay_head_walks job.number job.setting spells.within.setting) number)
    (chain frames (close_walks h tally))) (append-nil (all_of spells.frames) ∙ all) refl refl) spells.parts

-- the numbers behind a whole problem
abbrev pub solved : ℕ → ℕ → ℕ → SolveNumbers
solved number nodes sites = record {
  job = number;
  nodes = nodes;
  sites = sites;
  sites_left = 0;
  needs_left = 0;
  load = 0;
  via = [];
  hops_left = 0;
}

problem_walks : (number nodes : ℕ) (sites : List Site) (needs : List Need) → 1 ≤ nodes → nodes ≤ 4096
    → IsWithin sites needs → All IsSite sites → All IsLoad needs
    → Walks (Solve solves.Nodes (solve_start number))
    (little_bytes 2 nodes ++ problem_bytes (record { sites = sites; needs = needs }))
    (SolveEnd (solved number nodes (length sites))) [] sites needs
problem_walks number nodes [] needs some few is each loads = absurd (omega (arith, is.some_sites))
problem_walks number nodes (site ∷ sites) [] some few is each loads = absurd (omega (arith, is.some_needs))
problem_walks number nodes (site ∷ sites) (need ∷ needs) some few is each loads =
    let count : ℕ = length (site ∷ sites) in
    let n : SolveNumbers = solved number nodes count in
    giving
    (chain (nodes_walks (solve_start number) nodes some few)
    (chain (count_walks (record (solve_start number) { nodes = nodes }) count is.some_sites is.few_sites)
    (chain (sites_walk n sites site (recursion_from_All IsSite (site ∷ sites) each))
    (chain (needs_count_walks n (length (need ∷ needs)) is.some_needs is.few_needs)
    (needs_walk n needs need (recursion_from_All (IsNeed count) (need ∷ needs) is.each)
    (recursion_from_All IsLoad (need ∷ needs) loads)))))) refl (append-nil (site ∷ sites)) refl

-- a spelling of a solve job
solve_walks : (job : SolveJob) (bytes : List ℕ) → SpellsSolve job bytes
    → Walks job_start bytes (SolveEnd (solved job.number job.nodes (length job.problem.sites))) [] job.problem.sites
    job.problem.needs
solve_walks job bytes spells =
    let is : IsSolveJob job = spells.within in
    let number : Solve solves.Nodes (solve_start (read_back job.number)) ≡ Solve solves.Nodes (solve_start job.number) =
    ap (λ (n : ℕ). Solve solves.Nodes (solve_start n)) (number_4 job.number is.number) in
    starting
    (chain (ending (solve_head_walks job.number) number)
    (problem_walks job.number job.nodes job.problem.sites job.problem.needs is.some is.few is.within is.sites is.loads))
    spells.parts

solve_same : (number nodes : ℕ) (a b : List Site) (c d : List Need) → a ≡ b → c ≡ d
    → ◌≡◌ {A = Job} (SolveIt (record { number = number; nodes = nodes; problem = record { sites = a; needs = c } }))
    (SolveIt (record { number = number; nodes = nodes; problem = record { sites = b; needs = d } }))
solve_same number nodes a b c d p q =
    λ x. SolveIt (record { number = number; nodes = nodes; problem = record { sites = p x; needs = q x } })

-- a spelling of a job leads to an end, where this job is whole
pub spelled_on : (job : Job) (bytes : List ℕ) → SpellsJob job bytes
    → (place : Place) × (reached job_format (At job_start []) bytes ≡ At place []) × IsWhole place bytes job
spelled_on (Replay job) bytes spells =
    let walks = replay_walks job bytes spells in (
      ReplayEnd (numbers_of job.number job.setting) (record { items = length job.items; weight = weight_of job.items }),
      walks.leads,
      ap (λ (l : List Item). Replay (record { number = job.number; setting = job.setting; items = l }))
          (sym walks.gives_items),
    )
spelled_on (SolveIt job) bytes spells =
    let walks = solve_walks job bytes spells in (
      SolveEnd (solved job.number job.nodes (length job.problem.sites)),
      walks.leads,
      solve_same job.number job.nodes _ _ _ _ (sym walks.gives_sites) (sym walks.gives_needs),
    )
