use Rattle.std.proofs.Common.{◌≡◌, ◌≤◌, [], ap, arith}
use Rattle.std.specs.Prelude.{nat_le}
use Rattle.std.proofs.lemmas.Bool.{and_parts, leb-true}
use Rattle.bound_certificate.specs.Formed.{branches, is_formed, is_formed_at}
use Rattle.bound_certificate.specs.Tree.{visits, bound_of, verdict_of}
use Rattle.bound_certificate.specs.Checked.{IsTallied}
use Rattle.bound_certificate.specs.declared.verdict.Verdict.{Verdict}
use Rattle.bound_certificate.proofs.WeakDuality.{weak_duality}
use Rattle.bound_certificate.proofs.Counted.{nodes-le}
use Rattle.bound_certificate.proofs.checker.check.Goals as goal

pub check_at-requires-clause-formed : goal.check_at-requires-clause-formed
unfolding is_formed
check_at-requires-clause-formed c =
    rw c.new.ensures.value
    (and_parts (is_formed_at c.args.tree.now 0) (nat_le (branches c.args.tree.now) 4096) c.requires).0

pub check_at-requires-clause-count : goal.check_at-requires-clause-count
unfolding is_formed
check_at-requires-clause-count c =
    let parts = and_parts (is_formed_at c.args.tree.now 0) (nat_le (branches c.args.tree.now) 4096) c.requires in
    let few : branches c.args.tree.now ≤ 4096 = leb-true (branches c.args.tree.now) 4096 parts.1 in
    omega (arith, few, nodes-le c.args.tree.now 0 parts.0)

pub returns-in-Ok-clause-below : goal.returns-in-Ok-clause-below
unfolding verdict_of
returns-in-Ok-clause-below c placement fit =
    let p = c.args.problem.now in
    let tallied : IsTallied p 0 (visits p c.args.tree.now []) c.in-Ok.tally =
    rw c.new.ensures.value at c.in-Ok.ensures.ok in
    let bound : c.in-Ok.tally.verdict.bound ≡ bound_of p (visits p c.args.tree.now []) =
    ap (λ (verdict : Verdict). verdict.bound) tallied.verdict in
    rw bound (weak_duality p c.args.tree.now placement c.sites-sites.ensures.within tallied.faultless fit)
