use Rattle.solve_jobs.proofs.Reading.{judges}
use Rattle.solve_jobs.proofs.jobs.SolveJobs.new.Goals as goal

pub returns-clause-judges : goal.returns-clause-judges
returns-clause-judges c job bytes = judges c.args.problem.now c.args.nodes job bytes
