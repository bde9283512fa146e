use Rattle.std.proofs.Common.{◌≡◌, [], None}
use Rattle.bound_certificate.specs.Tree.{visits, first_fault}
use Rattle.bound_certificate.specs.Outcome.{tree_of}
use Rattle.bound_certificate.proofs.Meanings.{shows_if_ok}
use Rattle.bound_certificate.proofs.judge.judgement.Goals as goal

pub returns-clause-shows : goal.returns-clause-shows
returns-clause-shows c =
    let none : first_fault c.args.problem.now 0 (visits c.args.problem.now (tree_of c.args.outcome.now) []) ≡ None =
    rw c.tree.ensures.value at c.in-Ok.ensures.ok.0 in
    shows_if_ok c.args.problem.now c.args.nodes c.args.outcome.now c.judged.result c.sites-sites.ensures.within none
    c.judged.ensures
