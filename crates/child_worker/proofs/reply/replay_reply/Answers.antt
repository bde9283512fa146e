use Rattle.std.proofs.Common.{◌<◌, ◌^◌, arith, ◌∙◌}
use Rattle.child_worker.proofs.Feeding.{weight_of-fed}
use Rattle.child_worker.proofs.Gathering.{are_counters}
use Rattle.child_worker.proofs.Replying.{same_reply}
use Rattle.child_worker.proofs.reply.replay_reply.Goals as goal

pub returns-clause-reply : goal.returns-clause-reply
returns-clause-reply c = λ given sketch.
    let counters = c.in_ok-counters.ensures.list _ sketch.held in
    let heaps = c.in_ok-heaps.ensures.list _ sketch.held in
    same_reply c.args.job c.params.ensures.value sketch.counted
    (c.weight.ensures.value ∙ sketch.held.weight ∙ weight_of-fed given) counters heaps

pub returns-clause-within : goal.returns-clause-within
returns-clause-within c = λ given sketch.
    let counters = c.in_ok-counters.ensures in
    let heaps = c.in_ok-heaps.ensures in
    let whole = c.weight.ensures.whole in
    let number : c.args.job < 2 ^ 32 = omega arith in
    let items : c.args.items < 2 ^ 32 = omega arith in
    rw (c.params.ensures.value, c.weight.ensures.value) (record {
      head = record { number = number; within = whole.within; items = items; weight = omega (arith, whole.light) };
      number = counters.number;
      counters = are_counters c.args.levels.now.weight c.in_ok-counters.counters whole.light counters.bound;
      levels = heaps.number;
      heaps = heaps.each _ sketch.held;
    })
