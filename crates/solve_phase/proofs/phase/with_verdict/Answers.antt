use Rattle.std.proofs.Common.{Result, IfOk, ◌∙◌, subst}
use Rattle.bound_certificate.specs.Meaning.{Shows}
use Rattle.bound_certificate.specs.declared.outcome.OutcomeFault.{OutcomeFault}
use Rattle.bound_certificate.specs.declared.verdict.Verdict.{Verdict}
use Rattle.bound_certificate.proofs.Meanings.{right_formed, right_judged}
use Rattle.solve_phase.proofs.phase.with_verdict.Goals as goal

pub check_outcome-requires : goal.check_outcome-requires
check_outcome-requires c = right_formed c.args.problem.now c.args.nodes c.args.outcome c.requires.right

pub returns-clause-verdict : goal.returns-clause-verdict
returns-clause-verdict c =
    let judged = right_judged c.args.problem.now c.args.nodes c.args.outcome c.requires.right in cc

pub returns-clause-shows : goal.returns-clause-shows
returns-clause-shows c =
    subst (λ (r : Result Verdict OutcomeFault). IfOk r (Shows c.args.problem.now c.args.nodes c.args.outcome))
    (c.check_outcome.ensures.judged ∙ right_judged c.args.problem.now c.args.nodes c.args.outcome c.requires.right)
    c.check_outcome.ensures.shows
