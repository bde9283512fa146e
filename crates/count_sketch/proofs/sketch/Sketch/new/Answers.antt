use Rattle.std.proofs.Common.{◌≡◌, ◌*◌, List, replicate, ℤ, pos, ◌∙◌, ap}
use Rattle.count_sketch.specs.Counters.{Grid}
use Rattle.count_sketch.proofs.Shares.{counters_of-none}
use Rattle.count_sketch.proofs.sketch.Sketch.new.Goals as goal

pub returns-clause-empty : goal.returns-clause-empty
returns-clause-empty c = λ seed level.
    let zero : c.in_ok-counters.counters.items ≡ replicate (c.args.rows * c.args.width) (pos 0) =
    rw (c.from.ensures, c.from-2.ensures) at c.in_ok-counters.ensures in
    let f : List ℤ → Grid = λ counters. record { rows = c.args.rows; width = c.args.width; counters = counters } in
    ap f (zero ∙ counters_of-none seed level c.args.rows c.args.width)
