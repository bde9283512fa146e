use Rattle.bound_certificate.proofs.Meanings.{right_where_formed}
use Rattle.bound_certificate.proofs.judge.check_outcome.Goals as goal

pub returns-clause-right : goal.returns-clause-right
returns-clause-right c =
    right_where_formed c.args.problem.now c.args.nodes c.args.outcome.now c.judgement.result c.requires
    c.judgement.ensures.judged
