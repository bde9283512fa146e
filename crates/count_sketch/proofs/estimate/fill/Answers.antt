use Rattle.std.proofs.Common.{◌<◌, FitsSigned, w64, ◌∙◌, rules, arith}
use Rattle.std.proofs.lemmas.Int.{to_z-of_z}
use Rattle.count_sketch.proofs.Estimates.{filled_more, is_rows-le}
use Rattle.count_sketch.proofs.estimate.fill.Goals as goal

pub loop-row-preserved : goal.loop-row-preserved
loop-row-preserved c =
    let fits : FitsSigned w64 c.row_says.result = search rules in
    let says = to_z-of_z w64 _ fits ∙ c.row_says.ensures in
    let most = is_rows-le c.args.rows c.requires.rows in
    let below : c.loop-row.row < 7 = omega arith in
    rw (says, c.from.ensures)
    (filled_more c.args.family.now c.args.level c.args.width c.args.counters.now c.args.key.now c.loop-row.found
    c.loop-row.row below c.loop-row.invariant)
