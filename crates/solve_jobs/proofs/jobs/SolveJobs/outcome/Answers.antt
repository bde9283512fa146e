use Rattle.solve_jobs.proofs.Outcomes.{holds_again}
use Rattle.solve_jobs.proofs.jobs.SolveJobs.outcome.Goals as goal

pub returns-clause-kept : goal.returns-clause-kept
returns-clause-kept c problem nodes places judged holds =
    holds_again c.args.self.problem.now problem c.args.self.nodes nodes c.args.self.found places
    (λ job bytes good. (judged job bytes).0 good) holds
