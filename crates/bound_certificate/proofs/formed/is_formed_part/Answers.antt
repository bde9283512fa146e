-- The limits of a node, by its part.
use Rattle.std.proofs.Common.{◌≡◌, true, length, refl, sym, ◌∙◌, ap, subst}
use Rattle.bound_certificate.specs.Node.{Part, BranchPart, OverPart, HallPart, DualPart, FullPart}
use Rattle.bound_certificate.specs.Tree.{part_of}
use Rattle.bound_certificate.specs.Formed.{is_formed_part}
use Rattle.bound_certificate.proofs.Trees.{part_of-Branch, part_of-Over, part_of-Hall, part_of-Dual, part_of-Full}
use Rattle.bound_certificate.proofs.formed.is_formed_part.Goals as goal

pub returns-in-Branch : goal.returns-in-Branch
returns-in-Branch c =
    let part : part_of c.args.tree.now ≡ BranchPart (length c.in-Branch.children) =
    ap part_of c.in-Branch.is ∙ part_of-Branch c.in-Branch.children in
    subst (λ (part : Part). c.is_formed_branch.result ≡ is_formed_part c.args.depth part) (sym part) (cc)

pub returns-in-Over : goal.returns-in-Over
returns-in-Over c =
    let part : part_of c.args.tree.now ≡ OverPart = ap part_of c.in-Over.is ∙ part_of-Over in
    subst (λ (part : Part). true ≡ is_formed_part c.args.depth part) (sym part) (refl)

pub returns-in-Hall : goal.returns-in-Hall
returns-in-Hall c =
    let part : part_of c.args.tree.now ≡ HallPart c.in-Hall.names =
    ap part_of c.in-Hall.is ∙ part_of-Hall c.in-Hall.names in
    subst (λ (part : Part). c.is_formed_hall.result ≡ is_formed_part c.args.depth part) (sym part) (cc)

pub returns-in-Dual : goal.returns-in-Dual
returns-in-Dual c =
    let part : part_of c.args.tree.now ≡ DualPart c.in-Dual.lambda c.in-Dual.mu =
    ap part_of c.in-Dual.is ∙ part_of-Dual c.in-Dual.lambda c.in-Dual.mu in
    subst (λ (part : Part). c.is_formed_dual.result ≡ is_formed_part c.args.depth part) (sym part) (cc)

pub returns-in-Full : goal.returns-in-Full
returns-in-Full c =
    let part : part_of c.args.tree.now ≡ FullPart = ap part_of c.in-Full.is ∙ part_of-Full in
    subst (λ (part : Part). true ≡ is_formed_part c.args.depth part) (sym part) (refl)
