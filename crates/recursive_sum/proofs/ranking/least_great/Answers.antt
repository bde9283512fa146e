use Rattle.std.proofs.Common.{◌≡◌, unsigned_abs, ap, arith, ◌∙◌, to_z, of_z}
use Rattle.std.proofs.lemmas.Int.{ints, to_z-of_z}
use Rattle.std.specs.Int.{w128}
use Rattle.recursive_sum.proofs.Great.{is_great-any, is_great-none, is_great-above}
use Rattle.recursive_sum.proofs.ranking.least_great.Goals as goal
use Rattle.recursive_sum.proofs.ranking.least_great.Goals.{then-total-le0-via-then-total-le0}
use Rattle.recursive_sum.proofs.ranking.least_great.Goals.{then-total-le0-via-else-total-le0+then-per_mille-eq0}

pub returns-then-total-le0 : goal.returns-then-total-le0
returns-then-total-le0 c = elim c.then-total-le0.branch [
  | then-total-le0-via-then-total-le0 w ↦ λ size. is_great-any c.args.per_mille size c.args.total
      (omega (arith, ints, w.if-total-le0.true))
  | then-total-le0-via-else-total-le0+then-per_mille-eq0 w ↦ λ size. is_great-none c.args.per_mille size c.args.total
      (omega arith)
]

pub returns : goal.returns
returns c = λ size.
    let total : unsigned_abs (to_z w128 (of_z w128 c.args.total)) ≡ unsigned_abs c.args.total =
    ap unsigned_abs (to_z-of_z w128 c.args.total c.ranges.total) in
    let absolute : c.unsigned_abs.result ≡ unsigned_abs c.args.total = c.unsigned_abs.ensures.value ∙ total in
    is_great-above c.args.per_mille size _ c.args.total (omega arith) (omega (arith, ints, c.if-total-le0.false))
    (rw (← c.from.ensures, ← absolute) c.div_ceil.ensures)
