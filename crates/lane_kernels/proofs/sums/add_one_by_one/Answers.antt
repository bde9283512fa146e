use Rattle.std.proofs.Common.{◌≡◌, ℕ, pos, length, get_or, ◌+ℤ◌, FitsSigned, w64, subst, arith, rules}
use Rattle.std.proofs.lemmas.Int.{to_z-of_z}
use Rattle.lane_kernels.proofs.Joins.{Joined, joined_more, joined_all}
use Rattle.lane_kernels.proofs.sums.add_one_by_one.Goals as goal

pub loop-i-preserved : goal.loop-i-preserved
loop-i-preserved c =
    let result_fits : FitsSigned w64 c.sum_of.result = search rules in
    let number_fits : FitsSigned w64 (get_or c.loop-i.a c.loop-i.i (pos 0)) = search rules in
    let other_fits : FitsSigned w64 (get_or c.args.b.now c.loop-i.i (pos 0)) = search rules in
    rw (to_z-of_z w64 _ result_fits, c.sum_of.ensures, to_z-of_z w64 _ number_fits, to_z-of_z w64 _ other_fits)
    (joined_more ◌+ℤ◌ c.args.a.now c.args.b.now c.loop-i.a c.loop-i.i (omega arith) c.loop-i.invariant)

pub returns : goal.returns
returns c =
    let old = c.args.a.now in
    let others = c.args.b.now in
    let all : c.loop-i.i ≡ length old = omega arith in
    joined_all ◌+ℤ◌ old others _ c.requires.shape
    (subst (λ (n : ℕ). Joined ◌+ℤ◌ old others c.loop-i.a n) all c.loop-i.invariant)
