use Rattle.std.proofs.Common.{◌≡◌, ◌+◌, FitsSigned, length, to_z, ◌∙◌, ap, sym, subst, rules, arith, ℕ, ℤ, pos, ◌+ℤ◌}
use Rattle.std.proofs.Common.{◌*ℤ◌}
use Rattle.std.specs.Int.{w128}
use Rattle.std.proofs.lemmas.Int.{to_z-of_z}
use Rattle.recursive_sum.proofs.Descent.{IsSumAt, first_sum, next_sum, whole_sum_is, whole_sum_within}
use Rattle.recursive_sum.proofs.sum.g_sum.Goals as goal

pub loop-above-init : goal.loop-above-init
loop-above-init c =
    let highest = c.highest_level-highest in
    let lists : length c.args.merged.now.keys ≡ highest.result + 1 =
    highest.ensures.lists ∙ ap (λ k. k + 1) (sym highest.ensures.value) in
    let fits : FitsSigned w128 c.whole_level-sum.result = search rules in
    rw (to_z-of_z w128 _ fits)
    (first_sum c.args.family.now c.args.g c.args.merged.now highest.result lists _ c.whole_level-sum.ensures.value
    c.whole_level-sum.ensures.bound c.whole_level-sum.ensures.few)

pub loop-above-preserved : goal.loop-above-preserved
loop-above-preserved c =
    let highest = c.highest_level-highest in
    let bits : ℤ = to_z w128 c.loop-above.sum-bits in
    let lists : length c.args.merged.now.keys ≡ highest.result + 1 =
    highest.ensures.lists ∙ ap (λ k. k + 1) (sym highest.ensures.value) in
    let fits : FitsSigned w128 c.twice_and-sum.result = search rules in
    let own_fits : FitsSigned w128 c.turned_level-own.result = search rules in
    let sums : c.twice_and-sum.result ≡ (pos 2 *ℤ bits) +ℤ c.turned_level-own.result =
    c.twice_and-sum.ensures.value ∙ ap (λ (x : ℤ). (pos 2 *ℤ bits) +ℤ x) (to_z-of_z w128 _ own_fits) in
    rw (to_z-of_z w128 _ fits)
    (next_sum c.args.family.now c.args.g c.args.merged.now highest.result lists c.loop-above.above bits _ _
    c.loop-above-test.true c.loop-above.invariant c.turned_level-own.ensures.value c.turned_level-own.ensures.bound
    c.turned_level-own.ensures.few sums)

reached : (c : goal.After-loop-above)
    → IsSumAt c.args.family.now c.args.g c.args.merged.now c.highest_level-highest.result c.highest_level-highest.result
    (to_z w128 c.loop-above.sum-bits)
reached c =
    let all : c.loop-above.above ≡ c.highest_level-highest.result = omega arith in
    subst (λ (above : ℕ). IsSumAt c.args.family.now c.args.g c.args.merged.now c.highest_level-highest.result above
    (to_z w128 c.loop-above.sum-bits)) all c.loop-above.invariant

pub returns-clause-value : goal.returns-clause-value
returns-clause-value c =
    let highest = c.highest_level-highest in
    let lists : length c.args.merged.now.keys ≡ highest.result + 1 =
    highest.ensures.lists ∙ ap (λ k. k + 1) (sym highest.ensures.value) in
    whole_sum_is c.args.family.now c.args.g c.args.merged.now highest.result lists _ highest.ensures.value (reached c)

pub returns-clause-bound : goal.returns-clause-bound
returns-clause-bound c = λ n upto.
    let highest = c.highest_level-highest in
    let lists : length c.args.merged.now.keys ≡ highest.result + 1 =
    highest.ensures.lists ∙ ap (λ k. k + 1) (sym highest.ensures.value) in
    whole_sum_within c.args.family.now c.args.g c.args.merged.now highest.result lists n _ highest.ensures.value
    (reached c) upto
