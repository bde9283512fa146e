use Rattle.topk_heap.proofs.Found.{slot_found, slot_held}
use Rattle.topk_heap.proofs.place.place_of_slot.Goals as goal

pub returns-in-Ok-clause-value : goal.returns-in-Ok-clause-value
returns-in-Ok-clause-value c =
    slot_found c.args.slots.now c.args.order.now c.args.slot c.index-slots-slot.result c.requires.ascending
    c.requires.order c.requires.within c.in-Ok.place c.in-Ok.ensures.place

missed : (c : goal.In-Err) → ⊥
missed c =
    slot_held c.args.slots.now c.args.order.now c.args.slot c.index-slots-slot.result c.requires.ascending
    c.requires.order c.requires.within c.in-Err.place c.in-Err.ensures.place

pub returns-in-Err-clause-within : goal.returns-in-Err-clause-within
returns-in-Err-clause-within c = absurd (missed c)

pub returns-in-Err-clause-value : goal.returns-in-Err-clause-value
returns-in-Err-clause-value c = absurd (missed c)
