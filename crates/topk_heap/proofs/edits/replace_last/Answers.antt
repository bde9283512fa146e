use Rattle.std.proofs.Common.{◌≡◌, ◌<◌, ◌+◌, false, inl, inr, ℕ, List, [], ◌∷◌, length, length-set, set, get_or, sym, ◌∙◌, ap, arith, subst}
use Rattle.std.specs.List.{insert, remove}
use Rattle.std.proofs.lemmas.Bool.{cases_lt}
use Rattle.topk_heap.specs.Places.{IsOrder, RanksLast, listed}
use Rattle.topk_heap.specs.Ranking.{best, dropped_keys, ranks_before, with_score}
use Rattle.topk_heap.specs.declared.entry.Entry.{Entry}
use Rattle.topk_heap.proofs.Numbers.{order-moved}
use Rattle.topk_heap.proofs.Replaced.{dropped_of_replaced, kept_of_replaced, many_of_replaced}
use Rattle.topk_heap.proofs.Slots.{at_slot, length-listed, listed-moved, listed_last}
use Rattle.topk_heap.proofs.edits.replace_last.Goals as goal

-- the place of the entry that ranks last
inside : (c : goal.After-write_slot) → c.place_of_slot-from.result < length c.args.order.now.items
inside c = rw c.deref-2.ensures.value at c.place_of_slot-from.ensures.within

number : (c : goal.After-write_slot) → get_or c.args.order.now.items c.place_of_slot-from.result 0 ≡ c.args.last
number c = rw c.deref-2.ensures.value at c.place_of_slot-from.ensures.value

last : (c : goal.After-write_slot)
    → RanksLast (listed c.args.slots.now.items c.args.order.now.items) c.place_of_slot-from.result
last c =
    listed_last c.args.slots.now.items c.args.order.now.items c.args.last c.place_of_slot-from.result 0
    c.requires.order.below c.requires.last (inside c) (number c)

behind : (c : goal.After-write_slot) (d : Entry)
    → ranks_before (get_or (listed c.args.slots.now.items c.args.order.now.items) c.place_of_slot-from.result d)
    c.args.entry ≡ false
behind c d =
    rw (at_slot c.args.slots.now.items c.args.order.now.items c.place_of_slot-from.result c.args.last d d
    c.requires.order.below (inside c) (sym (number c))) (c.requires.behind d)

count : (c : goal.After-write_slot)
    → length (listed c.args.slots.now.items c.args.order.now.items) ≡ length c.args.slots.now.items
count c = length-listed c.args.slots.now.items c.args.order.now.items ∙ c.requires.order.long

pub returns-clause-kept : goal.returns-clause-kept
returns-clause-kept c =
    let slots = c.args.slots.now.items in
    let order = c.args.order.now.items in
    let from = c.place_of_slot-from.result in
    let to = c.place_without.result in
    (λ k. listed (c.write_slot.ensures.slots k) (c.move_number.ensures.items k))
    ∙ ap (λ (n : ℕ). listed (set slots n c.args.entry) (insert (remove order from) to (get_or order from 0)))
    (sym (number c))
    ∙ listed-moved slots order from 0 to c.args.entry c.requires.ascending (inside c)
    (c.requires.order.below from 0 (inside c))
    ∙ kept_of_replaced (listed slots order) c.args.entry.key c.args.entry.score from c.args.place to
    c.requires.ascending c.requires.place (last c) (behind c) c.place_without.ensures.above
    c.place_without.ensures.below
    ∙ ap (λ (n : ℕ). best n (with_score (listed slots order) c.args.entry.key c.args.entry.score)) (count c)

pub returns-clause-dropped : goal.returns-clause-dropped
returns-clause-dropped c =
    let slots = c.args.slots.now.items in
    let order = c.args.order.now.items in
    let from = c.place_of_slot-from.result in
    let e = c.index.result.now in
    ap (λ (d : Entry). d.key ∷ [])
    (c.index.ensures ∙ sym (at_slot slots order from c.args.last e e c.requires.order.below (inside c) (sym (number c))))
    ∙ dropped_of_replaced (listed slots order) c.args.entry.key c.args.entry.score from c.args.place
    c.place_without.result c.requires.ascending c.requires.place (last c) (behind c) c.place_without.ensures.above
    c.place_without.ensures.below e
    ∙ ap (λ (n : ℕ). dropped_keys n (with_score (listed slots order) c.args.entry.key c.args.entry.score)) (count c)

pub returns-clause-many : goal.returns-clause-many
returns-clause-many c =
    many_of_replaced (listed c.args.slots.now.items c.args.order.now.items) c.args.entry.key c.args.entry.score
    c.place_of_slot-from.result c.args.place c.place_without.result c.requires.ascending c.requires.place (last c)
    (behind c) c.place_without.ensures.above c.place_without.ensures.below ∙ ap (λ (n : ℕ). n + 1) (count c)

below : (c : goal.After-write_slot) → c.place_without.result < length c.args.order.now.items
below c =
    let within = c.requires.place.0.within in
    let long = length-listed c.args.slots.now.items c.args.order.now.items in
    elim (cases_lt c.place_of_slot-from.result c.args.place) [
      | inl under ↦ omega (arith, c.place_without.ensures.above under, within, long)
      | inr over ↦ omega (arith, c.place_without.ensures.below over, inside c, over)
    ]

pub returns-clause-order : goal.returns-clause-order
returns-clause-order c =
    let slots = c.args.slots.now.items in
    let long : length slots ≡ length c.write_slot.new.slots.items =
    omega (
      arith,
      ap (λ (l : List Entry). length l) c.write_slot.ensures.slots,
      length-set slots c.args.last c.args.entry,
    ) in
    subst (λ (n : ℕ). IsOrder n c.move_number.new.order.items) long
    (subst (IsOrder (length slots)) (sym c.move_number.ensures.items)
    (order-moved (length slots) c.args.order.now.items c.place_of_slot-from.result 0 c.place_without.result
    c.requires.order (inside c) (below c)))
