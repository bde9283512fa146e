-- A tree's nodes by its root and those of its children.
use Rattle.std.proofs.Common.{◌≡◌, ◌+◌, ◌≤◌, ◌<◌, true, false, [], length, map, drop, sym, ◌∙◌, ap, arith}
use Rattle.std.specs.Prelude.{sum}
use Rattle.std.proofs.lemmas.List.{drop_all}
use Rattle.bound_certificate.specs.Problem.{need_count, via}
use Rattle.bound_certificate.specs.Tree.{part_of, children_of, child_choices, below, visits}
use Rattle.bound_certificate.specs.Formed.{nodes, is_formed_at}
use Rattle.bound_certificate.specs.Outcome.{is_explored, are_explored}
use Rattle.bound_certificate.proofs.Trees.{is_formed_at-parts, fan-part_of, nodes-out}
use Rattle.bound_certificate.proofs.Nodes.{node_is_right, fan_right, choices_more, length-child_choices, nodes_at, formed_child}
use Rattle.bound_certificate.proofs.Exploring.{first_fault-number, are_explored-out, are_explored-nil, child_at_hand, child_right, child_explored, false_and, true_and}
use Rattle.bound_certificate.proofs.judge.+explored.Goals as goal

pub are_explored-is_explored-requires-clause-formed : goal.are_explored-is_explored-requires-clause-formed
are_explored-is_explored-requires-clause-formed t c =
    (is_formed_at-parts c.args.tree.now (length c.args.choices.now) c.requires.formed).0

pub are_explored-is_explored-requires-clause-right : goal.are_explored-is_explored-requires-clause-right
are_explored-is_explored-requires-clause-right t c =
    (node_is_right c.args.problem.now c.args.tree.now c.args.choices.now 0 c.requires.right).0

pub are_explored-returns-then-not-is_explored : goal.are_explored-returns-then-not-is_explored
are_explored-returns-then-not-is_explored t c =
    sym (are_explored-out c.args.problem.now c.args.rule.best c.args.rule.ceiling c.args.tree.now c.args.choices.now
    ∙ false_and (is_explored c.args.problem.now c.args.rule.best c.args.rule.ceiling
    (record { choices = c.args.choices.now; part = part_of c.args.tree.now }))
    (are_explored c.args.problem.now c.args.rule.best c.args.rule.ceiling
    (below c.args.problem.now c.args.choices.now 0 (map (visits c.args.problem.now) (children_of c.args.tree.now))))
    (sym c.is_explored.ensures.value ∙ c.if-not-is_explored.true))

pub are_explored-are_children_explored-requires : goal.are_explored-are_children_explored-requires
are_explored-are_children_explored-requires t c =
    let right = node_is_right c.args.problem.now c.args.tree.now c.args.choices.now 0 c.requires.right in
    let parts = is_formed_at-parts c.args.tree.now (length c.args.choices.now) c.requires.formed in
    let fan = fan_right c.args.problem.now c.args.choices.now (part_of c.args.tree.now) c.requires.choices right.0 in
    let size = fan-part_of c.args.tree.now in
    rw c.children.ensures.value (
      omega (arith, c.decreases, nodes-out c.args.tree.now),
      (
        c.requires.choices,
        (
          λ some. fan.0 (omega (arith, size)),
          (
            omega (arith, size, fan.1),
            (
              parts.1,
              first_fault-number c.args.problem.now (0 + 1) 0
                  (below c.args.problem.now c.args.choices.now 0
                  (map (visits c.args.problem.now) (children_of c.args.tree.now))) right.1,
            ),
          ),
        ),
      ),
    )

pub are_explored-returns : goal.are_explored-returns
are_explored-returns t c =
    let p = c.args.problem.now in
    let best = c.args.rule.best in
    let ceiling = c.args.rule.ceiling in
    let cs = c.args.choices.now in
    let node = is_explored p best ceiling (record { choices = cs; part = part_of c.args.tree.now }) in
    let others = are_explored p best ceiling (below p cs 0 (map (visits p) (children_of c.args.tree.now))) in
    let here : node ≡ true = sym c.is_explored.ensures.value ∙ c.if-not-is_explored.false in
    let rest : c.are_children_explored.result ≡ others =
    rw c.children.ensures.value at c.are_children_explored.ensures in
    let whole : are_explored p best ceiling (visits p c.args.tree.now cs) ≡ others =
    are_explored-out p best ceiling c.args.tree.now cs ∙ true_and node others here in
    rest ∙ sym whole

pub are_children_explored-are_explored-requires : goal.are_children_explored-are_explored-requires
unfolding child_choices
are_children_explored-are_explored-requires t c =
    let p = c.args.problem.now in
    let cs = c.args.choices.now in
    let ts = c.args.children.now in
    let n = c.loop-n.n in
    let child = c.index-children-n.result in
    let hand = child_at_hand p cs ts n child c.loop-n-test.true c.index-children-n.is in
    let led : c.with.result ≡ child_choices p cs n = cc in
    let above : length cs < need_count p = c.requires.depth (omega arith) in
    let within : n < length (via p (length cs)) = omega (arith, c.requires.fan) in
    let part : nodes child ≤ sum (map nodes ts) = rw c.index-children-n.is (nodes_at ts n child c.loop-n-test.true) in
    let formed : is_formed_at child (length cs + 1) ≡ true =
    rw c.index-children-n.is (formed_child ts n (length cs + 1) child c.requires.formed c.loop-n-test.true) in (
      omega (arith, c.decreases, part),
      (
        rw led (choices_more p cs n c.requires.choices above within),
        (
          rw (led, length-child_choices p cs n) formed,
          rw led (child_right p cs ts n child hand c.loop-n.invariant.0).0,
        ),
      ),
    )

pub are_children_explored-returns-then-not-are_explored : goal.are_children_explored-returns-then-not-are_explored
unfolding child_choices
are_children_explored-returns-then-not-are_explored t c =
    let p = c.args.problem.now in
    let cs = c.args.choices.now in
    let ts = c.args.children.now in
    let n = c.loop-n.n in
    let child = c.index-children-n.result in
    let hand = child_at_hand p cs ts n child c.loop-n-test.true c.index-children-n.is in
    let led : c.with.result ≡ child_choices p cs n = cc in
    let here : are_explored p c.args.rule.best c.args.rule.ceiling (visits p child (child_choices p cs n)) ≡ false =
    sym (rw led at c.are_explored.ensures) ∙ c.if-not-are_explored.true in
    sym (sym c.loop-n.invariant.1 ∙ child_explored p c.args.rule.best c.args.rule.ceiling cs ts n child hand
    ∙ false_and (are_explored p c.args.rule.best c.args.rule.ceiling (visits p child (child_choices p cs n)))
    (are_explored p c.args.rule.best c.args.rule.ceiling (below p cs (n + 1) (map (visits p) (drop (n + 1) ts)))) here)

pub are_children_explored-loop-n-preserved : goal.are_children_explored-loop-n-preserved
unfolding child_choices
are_children_explored-loop-n-preserved t c =
    let p = c.args.problem.now in
    let cs = c.args.choices.now in
    let ts = c.args.children.now in
    let n = c.loop-n.n in
    let child = c.index-children-n.result in
    let hand = child_at_hand p cs ts n child c.loop-n-test.true c.index-children-n.is in
    let led : c.with.result ≡ child_choices p cs n = cc in
    let here : are_explored p c.args.rule.best c.args.rule.ceiling (visits p child (child_choices p cs n)) ≡ true =
    sym (rw led at c.are_explored.ensures) ∙ c.if-not-are_explored.false in (
      (child_right p cs ts n child hand c.loop-n.invariant.0).1,
      sym (child_explored p c.args.rule.best c.args.rule.ceiling cs ts n child hand
          ∙ true_and (are_explored p c.args.rule.best c.args.rule.ceiling (visits p child (child_choices p cs n)))
          (are_explored p c.args.rule.best c.args.rule.ceiling
          (below p cs (n + 1) (map (visits p) (drop (n + 1) ts)))) here)
          ∙ c.loop-n.invariant.1,
    )

pub are_children_explored-returns : goal.are_children_explored-returns
are_children_explored-returns t c =
    let p = c.args.problem.now in
    let cs = c.args.choices.now in
    let ts = c.args.children.now in
    let none : drop c.loop-n.n ts ≡ [] = drop_all c.loop-n.n ts (omega arith) in
    sym (are_explored-nil p c.args.rule.best c.args.rule.ceiling)
    ∙ sym (ap (λ rest. are_explored p c.args.rule.best c.args.rule.ceiling
    (below p cs c.loop-n.n (map (visits p) rest))) none)
    ∙ c.loop-n.invariant.1
