use Rattle.std.proofs.Common.{◌≡◌, ℕ, subst, arith}
use Rattle.count_sketch.specs.Counters.{Item}
use Rattle.count_sketch.proofs.Steps.{AddedTo, added_row, added_all}
use Rattle.count_sketch.proofs.update.update_in.Goals as goal

pub loop-row-preserved : goal.loop-row-preserved
loop-row-preserved c = added_row c.loop-row.invariant (rw c.from.ensures at c.update_row.ensures.written)

pub returns : goal.returns
returns c =
    let item : Item = record { key = c.args.key.now; weight = c.args.weight } in
    let all : c.loop-row.row ≡ c.args.rows = omega arith in
    added_all c.args.family.now c.args.level c.args.rows c.args.width item c.args.counters.now c.loop-row.counters
    c.requires.shape
    (subst (λ (n : ℕ). AddedTo c.args.family.now c.args.level c.args.width item c.args.counters.now c.loop-row.counters
    n) all c.loop-row.invariant)
