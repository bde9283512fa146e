use Rattle.bound_certificate.proofs.Meanings.{judged_shows, right_judged}
use Rattle.bound_certificate.proofs.laws.right_outcomes_show.Goals as goal

pub returns-clause-judged : goal.returns-clause-judged
returns-clause-judged c = judged_shows

pub returns-clause-right : goal.returns-clause-right
returns-clause-right c = right_judged
