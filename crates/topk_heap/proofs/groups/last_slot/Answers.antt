use Rattle.std.proofs.Common.{◌≡◌, arith, get_or, sym, ◌∙◌, subst}
use Rattle.std.proofs.lemmas.List.{get_or_default}
use Rattle.topk_heap.specs.Places.{RanksLastOfGroup}
use Rattle.topk_heap.specs.Ranking.{ranks_before}
use Rattle.topk_heap.specs.declared.entry.Entry.{Entry}
use Rattle.topk_heap.proofs.LastOnes.{below_moves, below_stays}
use Rattle.topk_heap.proofs.groups.last_slot.Goals as goal
use Rattle.topk_heap.proofs.groups.last_slot.Goals.{then-ranks_before, else-ranks_before}

next : (c : goal.Joined-ranks_before) → RanksLastOfGroup c.args.slots.now c.loop-group.group c.from-other.result
next c =
    subst (RanksLastOfGroup c.args.slots.now c.loop-group.group) (sym c.from-other.ensures)
    (c.requires.lasts c.loop-group.group 0 (omega (arith, c.loop-group-test.true)))

tested : (c : goal.Joined-ranks_before) (d : Entry)
    → ranks_before (get_or c.args.slots.now c.loop-group.last d) (get_or c.args.slots.now c.from-other.result d)
    ≡ c.ranks_before.result
tested c d =
    let last = get_or_default c.args.slots.now c.loop-group.last d c.index-slots-last.result c.loop-group.invariant.within
    ∙ sym c.index-slots-last.is in
    let other = get_or_default c.args.slots.now c.from-other.result d c.index-slots-other.result (next c).within
    ∙ sym c.index-slots-other.is in
    (λ k. ranks_before (last k) (other k)) ∙ sym c.ranks_before.ensures.value

pub loop-group-preserved : goal.loop-group-preserved
loop-group-preserved c = elim c.if-ranks_before.branch [
  | then-ranks_before w ↦ rw w.last-is
      (below_moves _ _ _ _ c.loop-group.invariant (next c) (λ d. tested c d ∙ w.if-ranks_before.true))
  | else-ranks_before w ↦ rw w.last-is
      (below_stays _ _ _ _ c.loop-group.invariant (next c) (λ d. tested c d ∙ w.if-ranks_before.false))
]
