use Rattle.std.proofs.Common.{◌+◌, ◌-◌, ◌/◌, ◌<◌, length, sym, ◌∙◌, ap, arith, subst}
use Rattle.std.specs.Cmp.Lexicographic.{slice_cmp}
use Rattle.std.specs.Ordering.{nat_cmp}
use Rattle.topk_heap.specs.Places.{listed}
use Rattle.topk_heap.specs.declared.entry.Entry.{Entry}
use Rattle.topk_heap.proofs.Halves.{IsBetween, between_all, between_lower, between_upper, lesser_at}
use Rattle.topk_heap.proofs.Slots.{at_slot, length-listed}
use Rattle.topk_heap.proofs.place.place_of.Goals as goal

pub loop-low-init : goal.loop-low-init
loop-low-init c =
    subst (IsBetween (listed c.args.slots.now c.args.order.now) c.args.key.now 0)
    (length-listed c.args.slots.now c.args.order.now) (between_all _ _)

pub loop-low-preserved-in-Less : goal.loop-low-preserved-in-Less
loop-low-preserved-in-Less c =
    let low = c.loop-low.low in
    let high = c.loop-low.high in
    let middle = low + (high - low) / 2 in
    let slots = c.args.slots.now in
    let order = c.args.order.now in
    let entries = listed slots order in
    let key = c.args.key.now in
    let long = length-listed slots order in
    let under : middle < high = omega (arith, c.loop-low-test.true) in
    let within : middle < length entries = omega (arith, under, c.loop-low.invariant.within) in
    let inside : middle < length order = omega (arith, within, long) in
    between_upper entries key low high middle c.requires.ascending c.loop-low.invariant under
    (λ d. ap (λ (e : Entry). slice_cmp nat_cmp e.key key)
    (at_slot slots order middle c.from.result d c.index-slots-from.result c.requires.below inside c.from.ensures)
    ∙ sym c.in-Less.ensures)

pub returns-in-Equal : goal.returns-in-Equal
returns-in-Equal c =
    let low = c.loop-low.low in
    let high = c.loop-low.high in
    let middle = low + (high - low) / 2 in
    let slots = c.args.slots.now in
    let order = c.args.order.now in
    let entries = listed slots order in
    let key = c.args.key.now in
    let long = length-listed slots order in
    let under : middle < high = omega (arith, c.loop-low-test.true) in
    let within : middle < length entries = omega (arith, under, c.loop-low.invariant.within) in
    let inside : middle < length order = omega (arith, within, long) in
    let same = (λ (d : Entry). ap (λ (e : Entry). slice_cmp nat_cmp e.key key)
    (at_slot slots order middle c.from.result d c.index-slots-from.result c.requires.below inside c.from.ensures)
    ∙ sym c.in-Equal.ensures) in
    record {
      place = (
        lesser_at entries key middle c.index-slots-from.result c.requires.ascending within
            (same c.index-slots-from.result),
        within,
        same,
      );
    }

pub loop-low-preserved : goal.loop-low-preserved
loop-low-preserved c =
    let low = c.loop-low.low in
    let high = c.loop-low.high in
    let middle = low + (high - low) / 2 in
    let slots = c.args.slots.now in
    let order = c.args.order.now in
    let entries = listed slots order in
    let key = c.args.key.now in
    let long = length-listed slots order in
    let under : middle < high = omega (arith, c.loop-low-test.true) in
    let within : middle < length entries = omega (arith, under, c.loop-low.invariant.within) in
    let inside : middle < length order = omega (arith, within, long) in
    between_lower entries key low high middle c.requires.ascending c.loop-low.invariant (omega arith) under
    (λ d. ap (λ (e : Entry). slice_cmp nat_cmp e.key key)
    (at_slot slots order middle c.from.result d c.index-slots-from.result c.requires.below inside c.from.ensures)
    ∙ sym c.in-Greater.ensures)
