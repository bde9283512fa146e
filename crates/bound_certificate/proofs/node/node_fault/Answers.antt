-- The reason of a node is that of its part.
use Rattle.std.proofs.Common.{◌≡◌, true, length, sym, ◌∙◌, ap, subst}
use Rattle.bound_certificate.specs.Node.{Part, BranchPart, OverPart, HallPart, DualPart, FullPart, node_fault, over_fault}
use Rattle.bound_certificate.specs.Tree.{part_of}
use Rattle.bound_certificate.specs.Formed.{is_formed_part}
use Rattle.bound_certificate.proofs.Prices.{are_prices-Dual}
use Rattle.bound_certificate.proofs.Trees.{part_of-Branch, part_of-Over, part_of-Hall, part_of-Dual, part_of-Full}
use Rattle.bound_certificate.proofs.node.node_fault.Goals as goal

pub returns-in-Branch : goal.returns-in-Branch
unfolding node_fault
returns-in-Branch c =
    let part : part_of c.args.tree.now ≡ BranchPart (length c.in-Branch.children) =
    ap part_of c.in-Branch.is ∙ part_of-Branch c.in-Branch.children in
    record {
      value = subst
          (λ (part : Part). c.unless_over.result ≡ node_fault c.args.problem.now c.args.choices.now part) (sym part)
          (cc);
    }

pub returns-in-Over : goal.returns-in-Over
unfolding node_fault over_fault
returns-in-Over c =
    let part : part_of c.args.tree.now ≡ OverPart = ap part_of c.in-Over.is ∙ part_of-Over in
    record {
      value = subst
          (λ (part : Part). c.over_fault.result ≡ node_fault c.args.problem.now c.args.choices.now part) (sym part)
          (cc);
    }

pub returns-in-Hall : goal.returns-in-Hall
unfolding node_fault
returns-in-Hall c =
    let part : part_of c.args.tree.now ≡ HallPart c.in-Hall.names =
    ap part_of c.in-Hall.is ∙ part_of-Hall c.in-Hall.names in
    record {
      value = subst
          (λ (part : Part). c.unless_over-in-Hall.result ≡ node_fault c.args.problem.now c.args.choices.now part)
          (sym part)
          (cc);
    }

pub returns-in-Dual : goal.returns-in-Dual
unfolding node_fault
returns-in-Dual c =
    let part : part_of c.args.tree.now ≡ DualPart c.in-Dual.lambda c.in-Dual.mu =
    ap part_of c.in-Dual.is ∙ part_of-Dual c.in-Dual.lambda c.in-Dual.mu in
    record {
      value = subst
          (λ (part : Part). c.unless_over-in-Dual.result ≡ node_fault c.args.problem.now c.args.choices.now part)
          (sym part)
          (cc);
    }

pub returns-in-Full : goal.returns-in-Full
unfolding node_fault
returns-in-Full c =
    let part : part_of c.args.tree.now ≡ FullPart = ap part_of c.in-Full.is ∙ part_of-Full in
    record {
      value = subst
          (λ (part : Part). c.unless_over-in-Full.result ≡ node_fault c.args.problem.now c.args.choices.now part)
          (sym part)
          (cc);
    }

pub dual_fault-requires : goal.dual_fault-requires
dual_fault-requires c =
    let part : part_of c.args.tree.now ≡ DualPart c.in-Dual.lambda c.in-Dual.mu =
    ap part_of c.in-Dual.is ∙ part_of-Dual c.in-Dual.lambda c.in-Dual.mu in
    let formed = subst (λ (part : Part). is_formed_part (length c.args.choices.now) part ≡ true) part
    c.requires.formed in
    let prices = are_prices-Dual (length c.args.choices.now) c.in-Dual.lambda c.in-Dual.mu formed in
    record {
      choices = c.requires.choices;
      lambda = rw c.as_slice-in-Dual.ensures prices.0;
      mu = rw c.as_slice-in-Dual-2.ensures prices.1;
    }
