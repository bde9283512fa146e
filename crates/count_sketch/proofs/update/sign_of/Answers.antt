use Rattle.std.proofs.Common.{unsigned_abs, FitsSigned, w64, ◌∙◌, ap, rules}
use Rattle.std.proofs.lemmas.Int.{to_z-of_z}
use Rattle.count_sketch.proofs.Shares.{unsigned_abs-sign}
use Rattle.count_sketch.proofs.update.sign_of.Goals as goal

pub returns-clause-unit : goal.returns-clause-unit
returns-clause-unit c =
    let fits : FitsSigned w64 c.sign.result = search rules in
    ap unsigned_abs (to_z-of_z w64 _ fits ∙ c.sign.ensures.value) ∙ unsigned_abs-sign _ _ _ _
