use Rattle.std.proofs.Common.{◌≤◌, ◌-◌, ◌^◌, pos, unsigned_abs, arith}
use Rattle.std.proofs.lemmas.List.Elements.{All-from_get_or}
use Rattle.lane_rows.proofs.sums.fill.Goals as goal

pub returns : goal.returns
returns c =
    All-from_get_or (λ x. unsigned_abs x ≤ 2 ^ 62 - 1) c.loop-i.numbers (pos 0)
    (λ k below. c.loop-i.invariant k (omega arith))
