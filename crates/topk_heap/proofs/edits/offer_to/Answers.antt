use Rattle.std.proofs.Common.{rules, ◌≡◌, ◌≤◌, ◌<◌, true, ℕ, List, get_or, set, subst, length, to_z-of_z, w64, FitsSigned, sym, ◌∙◌, ap, arith}
use Rattle.std.specs.Prelude.{Ok, Err}
use Rattle.std.specs.List.{Contains}
use Rattle.std.proofs.lemmas.List.{get_or_default}
use Rattle.topk_heap.specs.Places.{IsPlace, RanksLast, listed}
use Rattle.topk_heap.specs.Ranking.{entry, ranks_before, with_score}
use Rattle.topk_heap.specs.declared.entry.Entry.{Entry}
use Rattle.topk_heap.proofs.Best.{best_of_few, dropped_of_few}
use Rattle.topk_heap.proofs.FullLists.{refused_dropped, refused_kept, refused_many}
use Rattle.topk_heap.proofs.Rewrites.{rewritten_dropped, rewritten_few, rewritten_kept}
use Rattle.topk_heap.proofs.Scores.{length-with_score-le}
use Rattle.topk_heap.proofs.Slots.{at_slot, length-listed, listed-set, listed_last}
use Rattle.topk_heap.proofs.edits.offer_to.Goals as goal

-- the key is held
found : (c : goal.After-rewrite)
    → IsPlace (listed c.args.slots.now.items c.args.order.now.items) c.args.key (Ok c.in-Ok.place)
found c = rw (c.deref.ensures.value, c.deref-2.ensures.value) at c.in-Ok.ensures.place

fits_still : (c : goal.After-rewrite) → length (listed c.args.slots.now.items c.args.order.now.items) ≤ c.args.size
fits_still c = omega (arith, c.requires.few, length-listed c.args.slots.now.items c.args.order.now.items)

pub returns-in-Ok-clause-kept : goal.returns-in-Ok-clause-kept
returns-in-Ok-clause-kept c =
    let fits : FitsSigned w64 c.args.score = search rules in
    let slots = c.args.slots.now.items in
    let order = c.args.order.now.items in
    let e = entry c.args.key c.args.score in
    let within : c.in-Ok.place < length order = omega (arith, (found c).1, length-listed slots order) in
    let n = c.index.result.now in
    let written = rw (to_z-of_z fits) at c.rewrite.ensures.slots in
    ap (λ (l : List Entry). listed l order) written
    ∙ ap (λ (slot : ℕ). listed (set slots slot e) order) (c.from.ensures ∙ c.index.ensures)
    ∙ listed-set slots order c.in-Ok.place n e c.requires.ascending within
    (c.requires.order.below c.in-Ok.place n within)
    ∙ rewritten_kept (listed slots order) c.args.key c.args.score c.args.size c.in-Ok.place c.requires.ascending
    (fits_still c) (found c)

pub returns-in-Ok-clause-dropped : goal.returns-in-Ok-clause-dropped
returns-in-Ok-clause-dropped c =
    rewritten_dropped (listed c.args.slots.now.items c.args.order.now.items) c.args.key c.args.score c.args.size
    c.in-Ok.place c.requires.ascending (fits_still c) (found c)

pub returns-in-Ok-clause-none : goal.returns-in-Ok-clause-none
returns-in-Ok-clause-none c =
    let few = rewritten_few (listed c.args.slots.now.items c.args.order.now.items) c.args.key c.args.score
    c.args.size c.in-Ok.place c.requires.ascending (fits_still c) (found c) in
    (λ _. few, λ _. cc)

-- the table is not full
few : (c : goal.After-search_full)
    → length (with_score (listed c.args.slots.now.items c.args.order.now.items) c.args.key c.args.score) ≤ c.args.size
few c = omega (
  arith,
  c.if-len-size.true,
  c.len.ensures,
  length-listed c.args.slots.now.items c.args.order.now.items,
  length-with_score-le (listed c.args.slots.now.items c.args.order.now.items) c.args.key c.args.score,
)

pub returns-then-len-size-clause-kept : goal.returns-then-len-size-clause-kept
returns-then-len-size-clause-kept c =
    let fits : FitsSigned w64 c.args.score = search rules in
    rw (to_z-of_z fits) at c.put_in.ensures.items ∙ sym (best_of_few c.args.size _ (few c))

pub returns-then-len-size-clause-dropped : goal.returns-then-len-size-clause-dropped
returns-then-len-size-clause-dropped c = sym (dropped_of_few c.args.size _ (few c))

-- the key is refused
full : (c : goal.Then-ranks_before) → length (listed c.args.slots.now.items c.args.order.now.items) ≡ c.args.size
full c = omega (
  arith,
  c.requires.few,
  c.if-len-size.false,
  c.len.ensures,
  length-listed c.args.slots.now.items c.args.order.now.items,
)

missed : (c : goal.Then-ranks_before)
    → IsPlace (listed c.args.slots.now.items c.args.order.now.items) c.args.key (Err c.in-Err.place)
missed c = rw (c.deref.ensures.value, c.deref-2.ensures.value) at c.in-Err.ensures.place

ranks : (c : goal.Then-ranks_before) → RanksLast c.args.slots.now.items c.last_slot-last.result
ranks c = rw c.deref-in-Err.ensures.value at c.last_slot-last.ensures.last

held : (c : goal.Then-ranks_before) → Contains c.args.order.now.items c.last_slot-last.result
held c = c.requires.order.each c.last_slot-last.result (ranks c).within

number : (c : goal.Then-ranks_before) → get_or c.args.order.now.items (held c).0 0 ≡ c.last_slot-last.result
number c = get_or_default c.args.order.now.items (held c).0 0 c.last_slot-last.result (held c).1 ∙ (held c).2

last : (c : goal.Then-ranks_before) → RanksLast (listed c.args.slots.now.items c.args.order.now.items) (held c).0
last c =
    listed_last c.args.slots.now.items c.args.order.now.items c.last_slot-last.result (held c).0 0
    c.requires.order.below (ranks c) (held c).1 (number c)

before : (c : goal.Then-ranks_before) (d : Entry)
    → ranks_before (get_or (listed c.args.slots.now.items c.args.order.now.items) (held c).0 d) (entry c.args.key c.args.score) ≡ true
before c d =
    let fits : FitsSigned w64 c.args.score = search rules in
    let value = rw (to_z-of_z fits) at c.ranks_before.ensures.value in
    let there = at_slot c.args.slots.now.items c.args.order.now.items (held c).0 c.last_slot-last.result d
    c.index-in-Err.result.now c.requires.order.below (held c).1 (sym (number c)) ∙ sym c.index-in-Err.ensures in
    subst (λ (e : Entry). ranks_before e (entry c.args.key c.args.score) ≡ true) (sym there)
    (sym value ∙ c.if-ranks_before.true)

pub returns-then-ranks_before-clause-kept : goal.returns-then-ranks_before-clause-kept
returns-then-ranks_before-clause-kept c =
    sym (refused_kept (listed c.args.slots.now.items c.args.order.now.items) c.args.key c.args.score c.args.size
    (held c).0 _ c.requires.ascending (full c) (missed c) (last c) (before c))

pub returns-then-ranks_before-clause-dropped : goal.returns-then-ranks_before-clause-dropped
returns-then-ranks_before-clause-dropped c =
    sym (refused_dropped (listed c.args.slots.now.items c.args.order.now.items) c.args.key c.args.score c.args.size
    (held c).0 _ c.requires.ascending (full c) (missed c) (last c) (before c))

pub returns-then-ranks_before-clause-none : goal.returns-then-ranks_before-clause-none
returns-then-ranks_before-clause-none c =
    let many = refused_many (listed c.args.slots.now.items c.args.order.now.items) c.args.key c.args.score
    c.args.size (held c).0 _ c.requires.ascending (full c) (missed c) (last c) (before c) in
    (λ h. cc, λ fits. absurd (omega (arith, many, fits)))
