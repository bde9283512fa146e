-- The laws of the one job of a search.
use Rattle.std.proofs.Common.{◌≡◌, ◌<◌, ◌^◌, ℕ, false, [], ◌∷◌, Option, None, Some, is_some, replicate, length, refl, arith}
use Rattle.std.proofs.lemmas.Bool.{true≢false}
use Rattle.bound_certificate.specs.Problem.{Problem}
use Rattle.bound_certificate.specs.declared.outcome.Outcome.{Outcome}
use Rattle.solve_jobs.specs.Search.{Holds}
use Rattle.solve_jobs.specs.SolveJobs.{solve_state, solve_stands}
use Rattle.solve_jobs.specs.declared.jobs.SolveJobs.{SolveJobs}

holds_none : (problem : Problem) (nodes : ℕ) (found : Option Outcome) → is_some found ≡ false
    → Holds problem nodes found (None ∷ [])
holds_none problem nodes None is = refl
holds_none problem nodes (Some outcome) is = absurd (true≢false is)

pub solve_starts : (s : SolveJobs) → ((job : ℕ) → (solve_state s).has_taken job ≡ false)
    → solve_stands s (replicate 1 None)
solve_starts s fresh = holds_none s.problem.now s.nodes s.found (fresh 0)

pub solve_few : (s : SolveJobs) (job : ℕ) → length ((solve_state s).work.pieces job) < 2 ^ 32
solve_few s job = omega arith
