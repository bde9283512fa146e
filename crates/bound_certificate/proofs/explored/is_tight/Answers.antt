-- What a node's floor has to be, by its part.
use Rattle.std.proofs.Common.{◌≡◌, true, length, None, sym, ◌∙◌, ap, subst}
use Rattle.bound_certificate.specs.Node.{Part, BranchPart, OverPart, HallPart, DualPart, FullPart, node_fault}
use Rattle.bound_certificate.specs.Tree.{part_of}
use Rattle.bound_certificate.specs.Formed.{is_formed_part}
use Rattle.bound_certificate.specs.Outcome.{is_tight}
use Rattle.bound_certificate.proofs.Prices.{dual_prices}
use Rattle.bound_certificate.proofs.Trees.{part_of-Branch, part_of-Over, part_of-Hall, part_of-Dual, part_of-Full}
use Rattle.bound_certificate.proofs.explored.is_tight.Goals as goal

pub returns-in-Branch : goal.returns-in-Branch
unfolding is_tight
returns-in-Branch c =
    let part : part_of c.args.tree.now ≡ BranchPart (length c.in-Branch.field-0) =
    ap part_of c.in-Branch.is ∙ part_of-Branch c.in-Branch.field-0 in
    subst (λ (part : Part). c.is_under.result ≡ is_tight c.args.problem.now c.args.ceiling c.args.choices.now part)
    (sym part) (cc)

pub returns-in-Over : goal.returns-in-Over
unfolding is_tight
returns-in-Over c =
    let part : part_of c.args.tree.now ≡ OverPart = ap part_of c.in-Over.is ∙ part_of-Over in
    subst (λ (part : Part). true ≡ is_tight c.args.problem.now c.args.ceiling c.args.choices.now part) (sym part) (cc)

pub returns-in-Hall : goal.returns-in-Hall
unfolding is_tight
returns-in-Hall c =
    let part : part_of c.args.tree.now ≡ HallPart c.in-Hall.field-0 =
    ap part_of c.in-Hall.is ∙ part_of-Hall c.in-Hall.field-0 in
    subst (λ (part : Part). true ≡ is_tight c.args.problem.now c.args.ceiling c.args.choices.now part) (sym part) (cc)

pub returns-in-Dual : goal.returns-in-Dual
unfolding is_tight
returns-in-Dual c =
    let part : part_of c.args.tree.now ≡ DualPart c.in-Dual.lambda c.in-Dual.mu =
    ap part_of c.in-Dual.is ∙ part_of-Dual c.in-Dual.lambda c.in-Dual.mu in
    subst (λ (part : Part). c.reaches_floor.result ≡ is_tight c.args.problem.now c.args.ceiling
    c.args.choices.now part) (sym part) (cc)

pub returns-in-Full : goal.returns-in-Full
unfolding is_tight
returns-in-Full c =
    let part : part_of c.args.tree.now ≡ FullPart = ap part_of c.in-Full.is ∙ part_of-Full in
    subst (λ (part : Part). true ≡ is_tight c.args.problem.now c.args.ceiling c.args.choices.now part) (sym part) (cc)

pub reaches_floor-requires-clause-prices : goal.reaches_floor-requires-clause-prices
reaches_floor-requires-clause-prices c =
    let part : part_of c.args.tree.now ≡ DualPart c.in-Dual.lambda c.in-Dual.mu =
    ap part_of c.in-Dual.is ∙ part_of-Dual c.in-Dual.lambda c.in-Dual.mu in
    let formed = subst (λ (part : Part). is_formed_part (length c.args.choices.now) part ≡ true) part
    c.requires.formed in
    let right = subst (λ (part : Part). node_fault c.args.problem.now c.args.choices.now part ≡ None) part
    c.requires.right in
    rw (c.as_slice.ensures, c.as_slice-in-Dual.ensures)
    (dual_prices c.args.problem.now c.args.choices.now c.in-Dual.lambda c.in-Dual.mu c.requires.choices formed right)
