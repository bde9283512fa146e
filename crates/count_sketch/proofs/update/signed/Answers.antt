use Rattle.std.proofs.Common.{ℕ, ◌*◌, ◌*ℤ◌, unsigned_abs, w64, refl, ◌∙◌, ap, arith}
use Rattle.std.proofs.lemmas.Int.{to_z-of_z, unsigned_abs-mul}
use Rattle.count_sketch.proofs.Shares.{signed_fits}
use Rattle.count_sketch.proofs.update.signed.Goals as goal

pub overflow_mul-result : goal.overflow_mul-result
overflow_mul-result c =
    rw (to_z-of_z w64 c.args.sign c.ranges.sign, to_z-of_z w64 c.args.number c.ranges.number)
    (signed_fits c.args.sign c.args.number c.requires.sign c.requires.number)

pub returns : goal.returns
returns c =
    let fits = signed_fits c.args.sign c.args.number c.requires.sign c.requires.number in
    rw (
      to_z-of_z w64 c.args.sign c.ranges.sign,
      to_z-of_z w64 c.args.number c.ranges.number,
      to_z-of_z w64
          (c.args.sign *ℤ c.args.number) fits,
    ) (record {
      value = refl;
      size = unsigned_abs-mul c.args.sign c.args.number ∙ ap (λ (n : ℕ). n * unsigned_abs c.args.number) c.requires.sign
          ∙ omega arith;
    })
