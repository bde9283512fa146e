-- The node is full, its later needs are crowded, or a dual closes it.
use Rattle.std.proofs.Common.{◌≡◌, ◌<◌, true, ◌||◌, ◌==◌, length, Some, sym, ◌∙◌, arith}
use Rattle.std.proofs.lemmas.Bool.Decides.{nat_tests}
use Rattle.bound_certificate.specs.Problem.{need_count}
use Rattle.bound_certificate.specs.Node.{dual_value}
use Rattle.placement_search.specs.Kept.{reaches}
use Rattle.placement_search.specs.Leaf.{IsCrowd, IsDual}
use Rattle.placement_search.proofs.Leaves.{full_leaf, hall_leaf, dual_leaf}
use Rattle.placement_search.proofs.leaf.leaf_at.Goals as goal

pub returns-then-len-from : goal.returns-then-len-from
returns-then-len-from c = record {
  found = let size : length c.args.choices.now ≡ need_count c.args.problem.now = grind (arith, nat_tests) in
      full_leaf c.args.problem.now c.args.choices.now c.args.progress.now size c.requires.room c.requires.beaten;
}

pub returns-in-Some : goal.returns-in-Some
returns-in-Some c = record {
  found = let above : length c.args.choices.now < need_count c.args.problem.now = grind (arith, nat_tests) in
      let crowd : IsCrowd c.args.problem.now c.args.choices.now c.in-Some.names = c.in-Some.ensures.crowd in
      rw c.in_ok-leaf.ensures.leaf
      (hall_leaf c.args.problem.now c.args.choices.now c.in-Some.names c.args.progress.now
      c.need_count.ensures.within above c.requires.room crowd);
}

pub returns : goal.returns
returns c = record {
  found = let p = c.args.problem.now in
      let above : length c.args.choices.now < need_count p = grind (arith, nat_tests) in
      let dual : IsDual p c.args.choices.now c.in_ok-prices.prices.lambda c.in_ok-prices.prices.mu =
      rw c.as_slice.ensures.value at c.in_ok-prices.ensures.dual in
      let closed : (c.args.progress.now.left == 0 || reaches c.args.progress.now.cost
      (Some (dual_value p c.args.choices.now c.in_ok-prices.prices.lambda c.in_ok-prices.prices.mu))) ≡ true =
      sym (rw c.as_slice-2.ensures.value at c.is_closed.ensures.value) ∙ c.if-not-is_closed.false in
      dual_leaf p c.args.choices.now c.in_ok-prices.prices.lambda c.in_ok-prices.prices.mu c.args.progress.now
      c.need_count.ensures.within above c.requires.room dual closed;
}
