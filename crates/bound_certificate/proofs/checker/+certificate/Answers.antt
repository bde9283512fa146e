-- A tree's check by that of its children.
use Rattle.std.proofs.Common.{◌≡◌, ℕ, suc, ◌+◌, ◌≤◌, ◌<◌, true, List, [], ◌∷◌, length, map, drop, get_or, None, Some, refl, sym, ◌∙◌, ap, subst, arith, add-one}
use Rattle.std.specs.Prelude.{sum}
use Rattle.std.proofs.Math.Seq.{drop-cons}
use Rattle.std.proofs.lemmas.List.{drop_all}
use Rattle.bound_certificate.specs.Problem.{need_count, via}
use Rattle.bound_certificate.specs.Node.{node_fault}
use Rattle.bound_certificate.specs.Tree.{part_of, child_choices}
use Rattle.bound_certificate.specs.Formed.{nodes, is_formed_at}
use Rattle.bound_certificate.specs.declared.tree.Tree.{Tree}
use Rattle.bound_certificate.specs.declared.tally.Tally.{Tally}
use Rattle.bound_certificate.proofs.Trees.{is_formed_at-parts, fan-part_of, nodes-out}
use Rattle.bound_certificate.proofs.Counted.{sum-cons, length-visits}
use Rattle.bound_certificate.proofs.Nodes.{fan_right, first_fault_here, first_fault_below, adds_tallied, if_ok, if_err, choices_more, length-child_choices, nodes_at, formed_child, part_branches}
use Rattle.bound_certificate.proofs.Reached.{Reached, reached_on, reached_fails, reached_end}
use Rattle.bound_certificate.proofs.checker.+certificate.Goals as goal

pub check_at-node_fault-requires-clause-formed : goal.check_at-node_fault-requires-clause-formed
check_at-node_fault-requires-clause-formed t c =
    rw c.as_slice.ensures.value (is_formed_at-parts c.args.tree.now (length c.args.choices.now) c.requires.formed).0

pub check_at-own_verdict-requires-clause-formed : goal.check_at-own_verdict-requires-clause-formed
check_at-own_verdict-requires-clause-formed t c =
    rw c.as_slice-2.ensures.value (is_formed_at-parts c.args.tree.now (length c.args.choices.now) c.requires.formed).0

pub check_at-returns-in-Some-clause-err : goal.check_at-returns-in-Some-clause-err
check_at-returns-in-Some-clause-err t c =
    let wrong : node_fault c.args.problem.now c.args.choices.now (part_of c.args.tree.now) ≡ Some c.in-Some.why =
    sym (rw c.as_slice.ensures.value at c.node_fault.ensures.value) ∙ c.in-Some.is in
    first_fault_here c.args.problem.now c.args.tree.now c.args.choices.now c.args.number c.in-Some.why wrong

pub check_at-check_children-requires : goal.check_at-check_children-requires
check_at-check_children-requires t c =
    let right : node_fault c.args.problem.now c.args.choices.now (part_of c.args.tree.now) ≡ None =
    sym (rw c.as_slice.ensures.value at c.node_fault.ensures.value) ∙ c.in_default.is in
    let parts = is_formed_at-parts c.args.tree.now (length c.args.choices.now) c.requires.formed in
    let fan = fan_right c.args.problem.now c.args.choices.now (part_of c.args.tree.now) c.requires.choices right in
    let size = fan-part_of c.args.tree.now in
    let branches : c.own_verdict.result.branches ≤ 1 =
    rw c.own_verdict.ensures (part_branches c.args.problem.now c.as_slice-2.result.now (part_of c.args.tree.now)) in
    rw c.children.ensures.value (
      omega (arith, c.decreases, nodes-out c.args.tree.now),
      (
        c.requires.choices,
        (
          λ some. fan.0 (omega (arith, size)),
          (
            omega (arith, size, fan.1),
            (
              parts.1,
              (
                omega (arith, c.requires.count, nodes-out c.args.tree.now),
                branches,
              ),
            ),
          ),
        ),
      ),
    )

pub check_at-returns-clause-ok : goal.check_at-returns-clause-ok
check_at-returns-clause-ok t c =
    let right : node_fault c.args.problem.now c.args.choices.now (part_of c.args.tree.now) ≡ None =
    sym (rw c.as_slice.ensures.value at c.node_fault.ensures.value) ∙ c.in_default.is in
    let own : Tally = record { verdict = c.own_verdict.result; nodes = 1 } in
    if_ok c.check_children.result
    (λ tally adds. adds_tallied c.args.problem.now c.args.tree.now c.args.choices.now c.args.number own tally right
    (rw c.as_slice-2.ensures.value at c.own_verdict.ensures) refl adds)
    (rw c.children.ensures.value at c.check_children.ensures.ok)

pub check_at-returns-clause-err : goal.check_at-returns-clause-err
check_at-returns-clause-err t c =
    let right : node_fault c.args.problem.now c.args.choices.now (part_of c.args.tree.now) ≡ None =
    sym (rw c.as_slice.ensures.value at c.node_fault.ensures.value) ∙ c.in_default.is in
    if_err c.check_children.result
    (λ fault fails. first_fault_below c.args.problem.now c.args.tree.now c.args.choices.now c.args.number right ∙ fails)
    (rw c.children.ensures.value at c.check_children.ensures.err)

-- the child at hand comes before those that are left
split : (ts : List Tree) (n : ℕ) (child : Tree) → n < length ts → child ≡ get_or ts n child
    → drop n ts ≡ child ∷ drop (n + 1) ts
split ts n child within is = rw add-one (drop-cons ts n child within ∙ ap (λ t. t ∷ drop (suc n) ts) (sym is))

pub check_children-check_at-requires : goal.check_children-check_at-requires
unfolding child_choices
check_children-check_at-requires t c =
    let p = c.args.problem.now in
    let cs = c.args.choices.now in
    let ts = c.args.children.now in
    let n = c.loop-n.n in
    let child = c.index-children-n.result in
    let rest = drop (n + 1) ts in
    let apart : drop n ts ≡ child ∷ rest = split ts n child c.loop-n-test.true c.index-children-n.is in
    let so_far : Reached p c.args.number cs ts c.args.own c.loop-n.tally n (child ∷ rest) =
    subst (λ rest. Reached p c.args.number cs ts c.args.own c.loop-n.tally n rest) apart c.loop-n.invariant in
    let led : c.with.result ≡ child_choices p cs n = cc in
    let above : length cs < need_count p = c.requires.depth (omega arith) in
    let within : n < length (via p (length cs)) = omega (arith, c.requires.fan) in
    let part : nodes child ≤ sum (map nodes ts) = rw c.index-children-n.is (nodes_at ts n child c.loop-n-test.true) in
    let formed : is_formed_at child (length cs + 1) ≡ true =
    rw c.index-children-n.is (formed_child ts n (length cs + 1) child c.requires.formed c.loop-n-test.true) in (
      omega (arith, c.decreases, part),
      (
        rw led (choices_more p cs n c.requires.choices above within),
        (
          rw (led, length-child_choices p cs n) formed,
          omega (arith, so_far.count, c.requires.count, sum-cons (nodes child) (map nodes rest)),
        ),
      ),
    )

pub check_children-joined-tally-requires-clause-nodes : goal.check_children-joined-tally-requires-clause-nodes
check_children-joined-tally-requires-clause-nodes t c =
    let ts = c.args.children.now in
    let n = c.loop-n.n in
    let child = c.index-children-n.result in
    let rest = drop (n + 1) ts in
    let apart : drop n ts ≡ child ∷ rest = split ts n child c.loop-n-test.true c.index-children-n.is in
    let so_far : Reached c.args.problem.now c.args.number c.args.choices.now ts c.args.own c.loop-n.tally n
    (child ∷ rest) =
    subst (λ rest. Reached c.args.problem.now c.args.number c.args.choices.now ts c.args.own
    c.loop-n.tally n rest) apart c.loop-n.invariant in
    omega (
      arith,
      so_far.count,
      c.requires.count,
      sum-cons (nodes child)
          (map nodes rest),
      c.in-Ok.ensures.ok.nodes,
      length-visits c.args.problem.now child c.with.result,
    )

pub check_children-returns-in-Err-clause-err : goal.check_children-returns-in-Err-clause-err
unfolding child_choices
check_children-returns-in-Err-clause-err t c =
    let p = c.args.problem.now in
    let cs = c.args.choices.now in
    let ts = c.args.children.now in
    let n = c.loop-n.n in
    let child = c.index-children-n.result in
    let rest = drop (n + 1) ts in
    let apart : drop n ts ≡ child ∷ rest = split ts n child c.loop-n-test.true c.index-children-n.is in
    let so_far : Reached p c.args.number cs ts c.args.own c.loop-n.tally n (child ∷ rest) =
    subst (λ rest. Reached p c.args.number cs ts c.args.own c.loop-n.tally n rest) apart c.loop-n.invariant in
    let led : c.with.result ≡ child_choices p cs n = cc in
    reached_fails p c.args.number cs ts c.args.own c.loop-n.tally n child rest c.in-Err.fault so_far
    (rw led at c.in-Err.ensures.err)

pub check_children-loop-n-preserved : goal.check_children-loop-n-preserved
unfolding child_choices
check_children-loop-n-preserved t c =
    let p = c.args.problem.now in
    let cs = c.args.choices.now in
    let ts = c.args.children.now in
    let n = c.loop-n.n in
    let child = c.index-children-n.result in
    let rest = drop (n + 1) ts in
    let apart : drop n ts ≡ child ∷ rest = split ts n child c.loop-n-test.true c.index-children-n.is in
    let so_far : Reached p c.args.number cs ts c.args.own c.loop-n.tally n (child ∷ rest) =
    subst (λ rest. Reached p c.args.number cs ts c.args.own c.loop-n.tally n rest) apart c.loop-n.invariant in
    let led : c.with.result ≡ child_choices p cs n = cc in
    reached_on p c.args.number cs ts c.args.own c.loop-n.tally c.in-Ok.more c.joined-tally.result n child rest so_far
    (rw led at c.in-Ok.ensures.ok)
    (record {
      verdict = c.joined-tally.ensures.verdict;
      nodes = c.joined-tally.ensures.nodes;
      few = c.joined-tally.ensures.few;
    })

pub check_children-returns-clause-ok : goal.check_children-returns-clause-ok
check_children-returns-clause-ok t c =
    let ts = c.args.children.now in
    let none : drop c.loop-n.n ts ≡ [] = drop_all c.loop-n.n ts (omega arith) in
    reached_end c.args.problem.now c.args.number c.args.choices.now ts c.args.own c.loop-n.tally c.loop-n.n
    (subst (λ rest. Reached c.args.problem.now c.args.number c.args.choices.now ts c.args.own c.loop-n.tally
    c.loop-n.n rest) none c.loop-n.invariant)
