use Rattle.std.proofs.Common.{◌≡◌, ℕ, pos, length, get_or, ◌+ℤ◌, FitsSigned, w64, subst, arith, rules}
use Rattle.std.proofs.lemmas.Int.{to_z-of_z}
use Rattle.count_sketch.proofs.Steps.{Joined, joined_more, joined_all}
use Rattle.count_sketch.proofs.places.add_places.Goals as goal

pub loop-i-preserved : goal.loop-i-preserved
loop-i-preserved c =
    let result_fits : FitsSigned w64 c.sum_of.result = search rules in
    let number_fits : FitsSigned w64 (get_or c.loop-i.numbers c.loop-i.i (pos 0)) = search rules in
    let other_fits : FitsSigned w64 (get_or c.args.others.now c.loop-i.i (pos 0)) = search rules in
    rw (to_z-of_z w64 _ result_fits, c.sum_of.ensures, to_z-of_z w64 _ number_fits, to_z-of_z w64 _ other_fits)
    (joined_more ◌+ℤ◌ c.args.numbers.now c.args.others.now c.loop-i.numbers c.loop-i.i (omega arith) c.loop-i.invariant)

pub returns : goal.returns
returns c =
    let old = c.args.numbers.now in
    let others = c.args.others.now in
    let all : c.loop-i.i ≡ length old = omega arith in
    joined_all ◌+ℤ◌ old others _ c.requires.shape
    (subst (λ (n : ℕ). Joined ◌+ℤ◌ old others c.loop-i.numbers n) all c.loop-i.invariant)
