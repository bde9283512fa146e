use Rattle.std.proofs.Common.{◌≡◌, ◌+◌, ℕ, List, true, refl, sym, ap, rules, arith}
use Rattle.flow_keys.specs.contracts.key.FlowKeyPartialEq.TheImpl as key
use Rattle.sketch_levels.specs.declared.tally.Total.{Total}
use Rattle.sketch_levels.proofs.Tallies.{AddsItem-new, AddsItem-written, packets-le, weight-le}
use Rattle.sketch_levels.proofs.tally.add_in.Goals as goal

exact : (x y : List ℕ) → key.eq-value.it x y ≡ true → x ≡ y
exact x y h = search rules

pub overflow_add-total : goal.overflow_add-total
overflow_add-total c =
    let there = sym c.in-Some.ensures.value in
    let few = packets-le (key.eq-value.it c.args.key.now) c.args.totals.now.entries c.in-Some.total.now there in
    omega (arith, few, c.requires.few)

pub overflow_add-total-in-Some : goal.overflow_add-total-in-Some
overflow_add-total-in-Some c =
    let there = sym c.in-Some.ensures.value in
    let light = weight-le (key.eq-value.it c.args.key.now) c.args.totals.now.entries c.in-Some.total.now there in
    omega (arith, light, c.requires.light, c.from.ensures)

pub returns-in-Some-clause-added : goal.returns-in-Some-clause-added
returns-in-Some-clause-added c =
    let there = sym c.in-Some.ensures.value in
    let total = c.in-Some.total.now in
    let after : Total = record { packets = total.packets + 1; weight = total.weight + c.from.result } in
    AddsItem-written key.eq-value.it exact c.args.key.now c.args.weight total after c.args.totals.now.entries _ there
    (c.get_mut.follows.holds after).0 refl (ap (λ (n : ℕ). total.weight + n) c.from.ensures)

pub returns-in-Ok-clause-added : goal.returns-in-Ok-clause-added
returns-in-Ok-clause-added c =
    let total : Total = record { packets = 1; weight = c.from-2.result } in
    AddsItem-new key.eq-value.it exact c.args.key.now c.args.weight total c.args.totals.now.entries _
    (sym c.in_default.ensures.value) (rw c.get_mut.follows.holds-at-none at c.in-Ok.ensures.entries) refl
    c.from-2.ensures
