use Rattle.std.proofs.Common.{◌/◌, set, refl, arith, ◌∙◌, subst}
use Rattle.topk_heap.specs.Places.{RanksLastOfGroup}
use Rattle.topk_heap.proofs.LastOnes.{lasts-searched, lasts-stay}
use Rattle.topk_heap.proofs.groups.write_slot.Goals as goal

pub returns-then-not-stays-clause-lasts : goal.returns-then-not-stays-clause-lasts
returns-then-not-stays-clause-lasts c =
    lasts-searched c.args.slots.now.items c.args.lasts.now.items c.search_group.new.lasts.items c.args.slot c.args.entry
    c.requires.lasts (rw c.deref-then-not-stays.ensures.value at c.search_group.ensures.last) c.search_group.ensures.others

pub returns-else-not-stays-clause-lasts : goal.returns-else-not-stays-clause-lasts
returns-else-not-stays-clause-lasts c =
    lasts-stay c.args.slots.now.items c.args.lasts.now.items c.args.slot c.index.result.now c.args.entry c.requires.lasts
    (omega (arith, c.requires.within, c.requires.few, c.requires.groups))
    (subst (RanksLastOfGroup (set c.args.slots.now.items c.args.slot c.args.entry) (c.args.slot / 32))
    (c.from.ensures ∙ c.index.ensures) (rw c.deref.ensures.value at (c.if-not-stays.ensures.last refl)))
