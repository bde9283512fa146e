use Rattle.std.proofs.Common.{◌≡◌, ◌+◌, FitsSigned, length, to_z, ◌∙◌, ap, sym, subst, rules, arith, ℕ, ℤ, pos, ◌+ℤ◌}
use Rattle.std.proofs.Common.{◌*ℤ◌}
use Rattle.std.specs.Int.{w128}
use Rattle.std.proofs.lemmas.Int.{to_z-of_z}
use Rattle.recursive_sum.specs.declared.measure.G.{G}
use Rattle.recursive_sum.specs.declared.measure.G.TheVariants.{One, Value}
use Rattle.recursive_sum.specs.Sum.{recursive_sum}
use Rattle.recursive_sum.proofs.Descent.{IsSumAt, first_sum, next_sum, whole_sum_is}
use Rattle.recursive_sum.proofs.one_pass.totals.Goals as goal

pub loop-above-init : goal.loop-above-init
loop-above-init c =
    let highest = c.highest_level-highest in
    let lists : length c.args.merged.now.keys ≡ highest.result + 1 =
    highest.ensures.lists ∙ ap (λ k. k + 1) (sym highest.ensures.value) in
    let whole = c.whole_level-whole in
    let keys_fit : FitsSigned w128 whole.result.cardinality = search rules in
    let weight_fits : FitsSigned w128 whole.result.weight = search rules in
    record {
      cardinality = rw (to_z-of_z w128 _ keys_fit)
          (first_sum c.args.family.now One c.args.merged.now highest.result lists _ whole.ensures.cardinality
          whole.ensures.most_keys whole.ensures.few);
      weight = rw (to_z-of_z w128 _ weight_fits)
          (first_sum c.args.family.now Value c.args.merged.now highest.result lists _ whole.ensures.weight
          whole.ensures.most_weight whole.ensures.few);
    }

pub loop-above-preserved : goal.loop-above-preserved
loop-above-preserved c =
    let highest = c.highest_level-highest in
    let lists : length c.args.merged.now.keys ≡ highest.result + 1 =
    highest.ensures.lists ∙ ap (λ k. k + 1) (sym highest.ensures.value) in
    let keys : ℤ = to_z w128 c.loop-above.cardinality-bits in
    let weight : ℤ = to_z w128 c.loop-above.weight-bits in
    let own = c.turned_level-own in
    let keys_fit : FitsSigned w128 c.twice_and-cardinality.result = search rules in
    let weight_fits : FitsSigned w128 c.twice_and-weight.result = search rules in
    let own_keys_fit : FitsSigned w128 own.result.cardinality = search rules in
    let own_weight_fits : FitsSigned w128 own.result.weight = search rules in
    let keys_sum : c.twice_and-cardinality.result ≡ (pos 2 *ℤ keys) +ℤ own.result.cardinality =
    c.twice_and-cardinality.ensures.value ∙ ap (λ (x : ℤ). (pos 2 *ℤ keys) +ℤ x) (to_z-of_z w128 _ own_keys_fit) in
    let weight_sum : c.twice_and-weight.result ≡ (pos 2 *ℤ weight) +ℤ own.result.weight =
    c.twice_and-weight.ensures.value ∙ ap (λ (x : ℤ). (pos 2 *ℤ weight) +ℤ x) (to_z-of_z w128 _ own_weight_fits) in
    record {
      cardinality = rw (to_z-of_z w128 _ keys_fit)
          (next_sum c.args.family.now One c.args.merged.now highest.result lists c.loop-above.above keys _ _
          c.loop-above-test.true c.loop-above.invariant.cardinality own.ensures.cardinality own.ensures.most_keys
          own.ensures.few keys_sum);
      weight = rw (to_z-of_z w128 _ weight_fits)
          (next_sum c.args.family.now Value c.args.merged.now highest.result lists c.loop-above.above weight _ _
          c.loop-above-test.true c.loop-above.invariant.weight own.ensures.weight own.ensures.most_weight
          own.ensures.few weight_sum);
    }

-- a sum that is kept down to the end of the loop is the recursive sum
reached : (c : goal.After-loop-above) (g : G) (sum : ℤ)
    → IsSumAt c.args.family.now g c.args.merged.now c.highest_level-highest.result c.loop-above.above sum
    → sum ≡ recursive_sum c.args.family.now g c.args.merged.now
reached c g sum so_far =
    let highest = c.highest_level-highest in
    let lists : length c.args.merged.now.keys ≡ highest.result + 1 =
    highest.ensures.lists ∙ ap (λ k. k + 1) (sym highest.ensures.value) in
    let all : c.loop-above.above ≡ highest.result = omega arith in
    whole_sum_is c.args.family.now g c.args.merged.now highest.result lists sum highest.ensures.value
    (subst (λ (above : ℕ). IsSumAt c.args.family.now g c.args.merged.now highest.result above sum) all so_far)

pub returns-clause-cardinality : goal.returns-clause-cardinality
returns-clause-cardinality c = reached c One _ c.loop-above.invariant.cardinality

pub returns-clause-weight : goal.returns-clause-weight
returns-clause-weight c = reached c Value _ c.loop-above.invariant.weight
