-- What clauses see of the one job of a search.
use Rattle.std.specs.Prelude.{◌==◌, ◌&&◌, [], ◌∷◌, is_some}
use Rattle.replay_supervisor.specs.Jobs.{JobsState, Places}
use Rattle.solve_jobs.specs.Reading.{is_good}
use Rattle.solve_jobs.specs.Search.{Holds}
use Rattle.solve_jobs.specs.declared.jobs.SolveJobs.{SolveJobs}

-- one job of one piece
abbrev pub solve_state : SolveJobs → JobsState
solve_state s = record {
  work = record { count = 1; pieces = λ job. s.job.items ∷ []; is_good = is_good s.problem.now s.nodes };
  has_taken = λ job. job == 0 && is_some s.found;
}

abbrev pub solve_stands : SolveJobs → Places → Type 0
solve_stands s places = Holds s.problem.now s.nodes s.found places
