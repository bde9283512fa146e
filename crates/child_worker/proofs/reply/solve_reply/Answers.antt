use Rattle.child_worker.proofs.Endings.{right_reply}
use Rattle.child_worker.proofs.reply.solve_reply.Goals as goal

pub returns-clause-within : goal.returns-clause-within
returns-clause-within c =
    right_reply c.args.job c.args.nodes c.args.problem.now c.in_ok-outcome.outcome c.requires.job
    c.in_ok-outcome.ensures.right
