use Rattle.std.proofs.Common.{rules, arith, to_z-of_z, w64, FitsSigned}
use Rattle.topk_heap.proofs.AnswerLemmas.{answer_dropping, answer_refused}
use Rattle.topk_heap.proofs.Best.{IsAscending-best}
use Rattle.topk_heap.proofs.Held.{length-with_score}
use Rattle.topk_heap.proofs.Scores.{IsAscending-with_score}
use Rattle.topk_heap.proofs.Slots.{length-listed}
use Rattle.topk_heap.proofs.top.TopK.offer.Goals as goal

pub invariant_of-self : goal.invariant_of-self
invariant_of-self c = record {
  whole = record {
    some = c.self.invariant.whole.some;
    limit = c.self.invariant.whole.limit;
    few = omega (
      arith,
      c.offer_to-dropped.ensures.fits,
      length-listed c.offer_to-dropped.new.slots.items c.offer_to-dropped.new.order.items,
    );
    ascending = rw c.offer_to-dropped.ensures.kept
        (IsAscending-best _ _ (IsAscending-with_score _ _ _ c.self.invariant.whole.ascending));
  };
  numbers = c.offer_to-dropped.ensures.order;
  slots_fit = c.offer_to-dropped.ensures.slots_room;
  order_fits = c.offer_to-dropped.ensures.order_room;
  groups = c.offer_to-dropped.ensures.groups;
  last_ones = c.offer_to-dropped.ensures.lasts;
}

pub returns-clause-one_more : goal.returns-clause-one_more
returns-clause-one_more c = rw (← c.self.view_is) (length-with_score _ _ _ c.self.invariant.whole.ascending)

pub returns-clause-refused : goal.returns-clause-refused
returns-clause-refused c =
    let fits : FitsSigned w64 c.args.score = search rules in
    let dropped = rw (to_z-of_z fits) at c.offer_to-dropped.ensures.dropped in
    rw (c.of.ensures.value, ← c.self.view_is, ← dropped) (answer_refused c.args.key c.offer_to-dropped.result)

pub returns-clause-dropping : goal.returns-clause-dropping
returns-clause-dropping c =
    let fits : FitsSigned w64 c.args.score = search rules in
    let dropped = rw (to_z-of_z fits) at c.offer_to-dropped.ensures.dropped in
    rw (c.of.ensures.value, ← c.self.view_is, ← dropped)
    (answer_dropping c.args.key c.offer_to-dropped.result)

pub returns-clause-table : goal.returns-clause-table
returns-clause-table c = (invariant_of-self c).whole
