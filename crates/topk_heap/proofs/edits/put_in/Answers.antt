use Rattle.std.proofs.Common.{◌≡◌, ◌++◌, ◌+◌, ℕ, List, [], ◌∷◌, length, sym, ◌∙◌, ap, arith, subst}
use Rattle.std.specs.List.{insert}
use Rattle.std.proofs.lemmas.List.{length_push}
use Rattle.std.proofs.lemmas.List.Elements.{recursion_from_All}
use Rattle.topk_heap.specs.Places.{IsOrder, listed}
use Rattle.topk_heap.specs.declared.entry.Entry.{Entry}
use Rattle.topk_heap.proofs.Lists.{edit_taken}
use Rattle.topk_heap.proofs.Numbers.{order-pushed}
use Rattle.topk_heap.proofs.Scores.{with_score_before}
use Rattle.topk_heap.proofs.Slots.{length-listed, listed-pushed}
use Rattle.topk_heap.proofs.edits.put_in.Goals as goal

pushed : (c : goal.After-insert) → c.push.new.self.items ≡ c.args.slots.now.items ++ c.args.entry ∷ []
pushed c =
    edit_taken {A = List Entry} c.push.result _ _ _ _ c.push.ensures.items
    (c.push.ensures.succeeds c.requires.slots_room) (λ k. c.args.slots.now.items ++ c.args.entry ∷ [])

numbered : (c : goal.After-insert)
    → c.insert.new.self.items ≡ insert c.args.order.now.items c.args.place (length c.args.slots.now.items)
numbered c =
    let count : c.len-slot.result ≡ length c.args.slots.now.items = omega (arith, c.len-slot.ensures) in
    edit_taken {A = List ℕ} c.insert.result _ _ _ _ c.insert.ensures.items
    (c.insert.ensures.succeeds c.requires.order_room)
    (ap (λ (n : ℕ). insert c.args.order.now.items c.args.place n) count)

pub returns-clause-items : goal.returns-clause-items
returns-clause-items c =
    let at = c.requires.place in
    (λ k. listed (pushed c k) (numbered c k))
    ∙ listed-pushed c.args.slots.now.items c.args.order.now.items c.args.place c.args.entry c.requires.order.below
    ∙ with_score_before _ _ _ _ c.requires.ascending at.0.within (recursion_from_All _ _ at.0.lesser) at.1

pub returns-clause-order : goal.returns-clause-order
returns-clause-order c =
    let long = length-listed c.args.slots.now.items c.args.order.now.items in
    let more = length_push c.args.slots.now.items c.args.entry in
    let whole : length c.args.slots.now.items + 1 ≡ length c.push.new.self.items =
    omega (arith, ap (λ (l : List Entry). length l) (pushed c), more) in
    subst (λ (n : ℕ). IsOrder n c.insert.new.self.items) whole
    (subst (IsOrder (length c.args.slots.now.items + 1)) (sym (numbered c))
    (order-pushed (length c.args.slots.now.items) c.args.order.now.items c.args.place c.requires.order
    (omega (arith, c.requires.place.0.within, long))))
