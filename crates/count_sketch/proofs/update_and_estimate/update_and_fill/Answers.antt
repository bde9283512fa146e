use Rattle.std.proofs.Common.{◌≡◌, ℕ, ◌≤◌, ◌<◌, ◌^◌, ℤ, pos, unsigned_abs, FitsSigned, w64, ◌∙◌, subst, arith, rules}
use Rattle.std.proofs.lemmas.Int.{to_z-of_z}
use Rattle.std.proofs.lemmas.List.Elements.{All-get_or}
use Rattle.std.proofs.lemmas.Nat.{row_fits}
use Rattle.count_sketch.specs.Counters.{Item}
use Rattle.count_sketch.proofs.Estimates.{fed_row, is_rows-le}
use Rattle.count_sketch.proofs.AtSpots.{spot_adds, spot_in, spot_says, spot_stands, spot_unit}
use Rattle.count_sketch.proofs.Steps.{AddedTo, added_all}
use Rattle.count_sketch.proofs.update_and_estimate.update_and_fill.Goals as goal

pub add-says-requires-clause-place : goal.add-says-requires-clause-place
add-says-requires-clause-place c =
    let is = spot_in c.requires.spots c.in_row.ensures.value c.loop-row-test.true in
    let stands = spot_stands is c.requires.width in
    let fits = row_fits c.loop-row.row c.args.width c.args.rows c.args.width c.loop-row-test.true (omega arith) in
    omega (arith, stands.below, fits, c.requires.shape, c.loop-row.auto.counters)

pub add-says-requires-clause-sign : goal.add-says-requires-clause-sign
add-says-requires-clause-sign c = spot_unit (spot_in c.requires.spots c.in_row.ensures.value c.loop-row-test.true)

pub add-says-requires-clause-number : goal.add-says-requires-clause-number
add-says-requires-clause-number c =
    let is = spot_in c.requires.spots c.in_row.ensures.value c.loop-row-test.true in
    let stands = spot_stands is c.requires.width in
    let fits = row_fits c.loop-row.row c.args.width c.args.rows c.args.width c.loop-row-test.true (omega arith) in
    rw (c.loop-row.invariant.added.rest c.in_row.result.place stands.above)
    (All-get_or (λ (x : ℤ). unsigned_abs x ≤ 2 ^ 61) c.args.counters.now c.in_row.result.place (pos 0)
    (omega (arith, stands.below, fits, c.requires.shape)) c.requires.small.each)

pub loop-row-preserved : goal.loop-row-preserved
loop-row-preserved c =
    let fits : FitsSigned w64 c.add-says.result = search rules in
    let is = spot_in c.requires.spots c.in_row.ensures.value c.loop-row-test.true in
    let says = to_z-of_z w64 _ fits ∙ c.add-says.ensures.says ∙ spot_says is c.add-says.new.counters in
    let room = row_fits c.loop-row.row c.args.width c.args.rows c.args.width c.loop-row-test.true (omega arith) in
    let most = is_rows-le c.args.rows c.requires.rows in
    let below : c.loop-row.row < 7 = omega arith in
    let item : Item = record { key = c.args.key.now; weight = c.args.weight } in
    let adds = spot_adds {item = item} c.requires.width is
    (omega (arith, room, c.requires.shape, c.loop-row.auto.counters)) c.add-says.ensures.written in
    rw (says, c.from.ensures) (fed_row below c.loop-row.invariant adds)

pub returns-clause-next : goal.returns-clause-next
returns-clause-next c =
    let item : Item = record { key = c.args.key.now; weight = c.args.weight } in
    let all : c.loop-row.row ≡ c.args.rows = omega arith in
    added_all c.args.family.now c.args.level c.args.rows c.args.width item c.args.counters.now c.loop-row.counters
    c.requires.shape
    (subst (λ (n : ℕ). AddedTo c.args.family.now c.args.level c.args.width item c.args.counters.now c.loop-row.counters
    n) all c.loop-row.invariant.added)
