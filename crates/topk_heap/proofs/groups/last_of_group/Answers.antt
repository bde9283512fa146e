use Rattle.std.proofs.Common.{◌≡◌, arith, get_or, sym, ◌∙◌}
use Rattle.std.proofs.lemmas.List.{get_or_default}
use Rattle.topk_heap.specs.Ranking.{ranks_before}
use Rattle.topk_heap.specs.declared.entry.Entry.{Entry}
use Rattle.topk_heap.proofs.LastOnes.{from_moves, from_one, from_stays}
use Rattle.topk_heap.proofs.groups.last_of_group.Goals as goal
use Rattle.topk_heap.proofs.groups.last_of_group.Goals.{then-ranks_before, else-ranks_before}

pub loop-slot-init : goal.loop-slot-init
loop-slot-init c = (from_one _ _, omega (arith, c.requires.some))

-- the test compares the last one so far and the slot
tested : (c : goal.Joined-ranks_before) (d : Entry)
    → ranks_before (get_or c.args.slots.now c.loop-slot.last d) (get_or c.args.slots.now c.loop-slot.slot d)
    ≡ c.ranks_before.result
tested c d =
    let last = get_or_default c.args.slots.now c.loop-slot.last d c.index-slots-last.result
    (omega (arith, c.loop-slot.invariant.0.within, c.loop-slot.invariant.1)) ∙ sym c.index-slots-last.is in
    let slot = get_or_default c.args.slots.now c.loop-slot.slot d c.index-slots-slot.result
    (omega (arith, c.loop-slot-test.true)) ∙ sym c.index-slots-slot.is in
    (λ k. ranks_before (last k) (slot k)) ∙ sym c.ranks_before.ensures.value

pub loop-slot-preserved : goal.loop-slot-preserved
loop-slot-preserved c = elim c.if-ranks_before.branch [
  | then-ranks_before w ↦ rw w.last-is (
    from_moves _ _ _ _ c.loop-slot.invariant.0 (λ d. tested c d ∙ w.if-ranks_before.true),
    omega arith,
  )
  | else-ranks_before w ↦ rw w.last-is (
    from_stays _ _ _ _ c.loop-slot.invariant.0 (λ d. tested c d ∙ w.if-ranks_before.false),
    omega arith,
  )
]
