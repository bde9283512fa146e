-- A node's own verdict is that of its part.
use Rattle.std.proofs.Common.{◌≡◌, true, false, length, None, Some, ℤ, pos, FitsSigned, to_z, of_z, to_z-of_z, Bool, rules, refl, sym, ◌∙◌, ap, subst}
use Rattle.std.specs.Int.{w128}
use Rattle.bound_certificate.specs.Node.{Part, DualPart, FullPart, node_fault, dual_value}
use Rattle.bound_certificate.specs.Tree.{part_of, part_verdict}
use Rattle.bound_certificate.specs.Formed.{is_formed_part}
use Rattle.bound_certificate.specs.declared.verdict.Verdict.{Verdict}
use Rattle.bound_certificate.proofs.Prices.{dual_prices}
use Rattle.bound_certificate.proofs.Trees.{part_of-Branch, part_of-Over, part_of-Hall, part_of-Dual, part_of-Full}
use Rattle.bound_certificate.proofs.checker.own_verdict.Goals as goal

pub returns-in-Branch : goal.returns-in-Branch
unfolding part_verdict
returns-in-Branch c = rw (ap part_of c.in-Branch.is ∙ part_of-Branch c.in-Branch.field-0) refl

pub returns-in-Over : goal.returns-in-Over
unfolding part_verdict
returns-in-Over c = rw (ap part_of c.in-Over.is ∙ part_of-Over) refl

pub returns-in-Hall : goal.returns-in-Hall
unfolding part_verdict
returns-in-Hall c = rw (ap part_of c.in-Hall.is ∙ part_of-Hall c.in-Hall.field-0) refl

-- a leaf with a value
abbrev valued : ℤ → Bool → Verdict
valued value full = record { bound = Some value; branches = 0; full = full }

pub returns-in-Full : goal.returns-in-Full
unfolding part_verdict
returns-in-Full c =
    let fits : FitsSigned w128 c.from.result = search rules in
    let part : part_of c.args.tree.now ≡ FullPart = ap part_of c.in-Full.is ∙ part_of-Full in
    subst (λ (part : Part). valued
    (to_z w128 (of_z w128 c.from.result)) true ≡ part_verdict c.args.problem.now c.args.choices.now part) (sym part)
    (ap (λ (value : ℤ). valued value true) (to_z-of_z fits ∙ c.from.ensures ∙ ap pos c.cost_of.ensures.value))

pub returns-in-Dual : goal.returns-in-Dual
unfolding part_verdict
returns-in-Dual c =
    let fits : FitsSigned w128 c.dual_value-value.result = search rules in
    let part : part_of c.args.tree.now ≡ DualPart c.in-Dual.lambda c.in-Dual.mu =
    ap part_of c.in-Dual.is ∙ part_of-Dual c.in-Dual.lambda c.in-Dual.mu in
    let value : c.dual_value-value.result ≡ dual_value c.args.problem.now c.args.choices.now c.in-Dual.lambda
    c.in-Dual.mu =
    rw (c.as_slice.ensures, c.as_slice-in-Dual.ensures) at c.dual_value-value.ensures.value in
    subst (λ (part : Part). valued
    (to_z w128 (of_z w128 c.dual_value-value.result)) false ≡ part_verdict c.args.problem.now c.args.choices.now part)
    (sym part)
    (ap (λ (value : ℤ). valued value false) (to_z-of_z fits ∙ value))

pub dual_value-value-requires-clause-prices : goal.dual_value-value-requires-clause-prices
dual_value-value-requires-clause-prices c =
    let part : part_of c.args.tree.now ≡ DualPart c.in-Dual.lambda c.in-Dual.mu =
    ap part_of c.in-Dual.is ∙ part_of-Dual c.in-Dual.lambda c.in-Dual.mu in
    let formed = subst (λ (part : Part). is_formed_part (length c.args.choices.now) part ≡ true) part
    c.requires.formed in
    let right = subst (λ (part : Part). node_fault c.args.problem.now c.args.choices.now part ≡ None) part
    c.requires.right in
    rw (c.as_slice.ensures, c.as_slice-in-Dual.ensures)
    (dual_prices c.args.problem.now c.args.choices.now c.in-Dual.lambda c.in-Dual.mu c.requires.choices formed right)
