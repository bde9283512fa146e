use Rattle.std.proofs.Common.{pos, refl, slice_index_or, FitsSigned, w64, rules}
use Rattle.std.proofs.lemmas.Int.{to_z-of_z}
use Rattle.count_sketch.specs.Estimate.{row_estimate}
use Rattle.count_sketch.proofs.estimate.row_says.Goals as goal

pub returns : goal.returns
unfolding row_estimate
returns c =
    let result_fits : FitsSigned w64 c.signed.result = search rules in
    let sign_fits : FitsSigned w64 c.sign_of.result = search rules in
    let number_fits : FitsSigned w64 (slice_index_or c.args.counters.now c.place_of-at.result (pos 0)) = search rules in
    rw (
      to_z-of_z w64 _ result_fits,
      c.signed.ensures.value,
      to_z-of_z w64 _ sign_fits,
      to_z-of_z w64 _ number_fits,
      c.sign_of.ensures.value,
      c.place_of-at.ensures.value,
    ) refl
