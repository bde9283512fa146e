-- A node's own count, by its part.
use Rattle.std.proofs.Common.{◌≡◌, ℕ, cond, length, refl, sym, ◌∙◌, ap, subst}
use Rattle.bound_certificate.specs.Node.{Part, BranchPart, OverPart, HallPart, DualPart, FullPart}
use Rattle.bound_certificate.specs.Tree.{part_of, is_branch}
use Rattle.bound_certificate.proofs.Trees.{part_of-Branch, part_of-Over, part_of-Hall, part_of-Dual, part_of-Full}
use Rattle.bound_certificate.proofs.formed.own_branches.Goals as goal

pub returns-in-Branch-clause-value : goal.returns-in-Branch-clause-value
returns-in-Branch-clause-value c =
    let part : part_of c.args.tree.now ≡ BranchPart (length c.in-Branch.field-0) =
    ap part_of c.in-Branch.is ∙ part_of-Branch c.in-Branch.field-0 in
    subst (λ (part : Part). 1 ≡ cond {A = ℕ} (is_branch part) 1 0) (sym part) refl

pub returns-in-Over-clause-value : goal.returns-in-Over-clause-value
returns-in-Over-clause-value c =
    let part : part_of c.args.tree.now ≡ OverPart = ap part_of c.in-Over.is ∙ part_of-Over in
    subst (λ (part : Part). 0 ≡ cond {A = ℕ} (is_branch part) 1 0) (sym part) refl

pub returns-in-Hall-clause-value : goal.returns-in-Hall-clause-value
returns-in-Hall-clause-value c =
    let part : part_of c.args.tree.now ≡ HallPart c.in-Hall.field-0 =
    ap part_of c.in-Hall.is ∙ part_of-Hall c.in-Hall.field-0 in
    subst (λ (part : Part). 0 ≡ cond {A = ℕ} (is_branch part) 1 0) (sym part) refl

pub returns-in-Dual-clause-value : goal.returns-in-Dual-clause-value
returns-in-Dual-clause-value c =
    let part : part_of c.args.tree.now ≡ DualPart c.in-Dual.lambda c.in-Dual.mu =
    ap part_of c.in-Dual.is ∙ part_of-Dual c.in-Dual.lambda c.in-Dual.mu in
    subst (λ (part : Part). 0 ≡ cond {A = ℕ} (is_branch part) 1 0) (sym part) refl

pub returns-in-Full-clause-value : goal.returns-in-Full-clause-value
returns-in-Full-clause-value c =
    let part : part_of c.args.tree.now ≡ FullPart = ap part_of c.in-Full.is ∙ part_of-Full in
    subst (λ (part : Part). 0 ≡ cond {A = ℕ} (is_branch part) 1 0) (sym part) refl
