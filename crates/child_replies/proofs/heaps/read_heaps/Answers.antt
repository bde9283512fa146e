use Rattle.std.proofs.Common.{◌≡◌, ◌∙◌, ◌<◌, ◌∷◌, [], List, length, length-append, sym, ap, subst, arith}
use Rattle.child_replies.specs.Heads.{head_of_job}
use Rattle.child_replies.specs.Steps.{Moves}
use Rattle.child_replies.proofs.HeapFields.{heap_last, heap_more}
use Rattle.child_replies.proofs.Moves.{may_stop_on}
use Rattle.reply_format.specs.Places.{HeapLength, Place, behind_heap}
use Rattle.reply_format.specs.Reply.{level_count}
use Rattle.reply_format.specs.declared.heap.Heap.{Heap}
use Rattle.child_replies.proofs.heaps.read_heaps.Goals as goal

pub returns-in-Err-clause-stop : goal.returns-in-Err-clause-stop
returns-in-Err-clause-stop c counters =
    let e = head_of_job c.args.job.now in
    let less : length c.loop.heaps < level_count e.setting = omega
    (arith, c.loop.invariant.number, c.loop-test.true, c.from-end.ensures) in
    may_stop_on e (HeapLength counters []) (HeapLength counters c.loop.heaps) c.args.bytes.now c.loop.rest.now
    c.in-Err.fault
    (subst (λ (place : Place). Moves e (HeapLength counters []) c.args.bytes.now place c.loop.rest.now)
    (heap_more e counters c.loop.heaps less)
    (c.loop.invariant.on counters))
    (c.in-Err.ensures.stop counters c.loop.heaps)

pub loop-preserved : goal.loop-preserved
loop-preserved c =
    let e = head_of_job c.args.job.now in
    let less : length c.loop.heaps < level_count e.setting = omega
    (arith, c.loop.invariant.number, c.loop-test.true, c.from-end.ensures) in
    record {
      on = λ counters.
          subst (λ (place : Place). Moves e (HeapLength counters []) c.args.bytes.now place c.loop.rest.now)
          (heap_more e counters c.loop.heaps less)
          (c.loop.invariant.on counters)
          ∙ subst (λ (heaps : List Heap). Moves e (HeapLength counters c.loop.heaps) c.loop.rest.now
          (behind_heap e counters heaps) c.in-Ok.read.1.now)
          (sym c.in-Ok-push.ensures.ok) (c.in-Ok.ensures.on counters c.loop.heaps);
      number = ap length c.in-Ok-push.ensures.ok
          ∙ omega (arith, c.loop.invariant.number, length-append c.loop.heaps (c.in-Ok.read.0 ∷ []));
    }

pub returns-clause-on : goal.returns-clause-on
returns-clause-on c counters =
    let e = head_of_job c.args.job.now in
    let all : length c.loop.heaps ≡ level_count e.setting =
    omega (arith, c.loop.invariant.number, c.loop-test.false, c.loop.auto.counter-end, c.from-end.ensures) in
    subst (λ (place : Place). Moves e (HeapLength counters []) c.args.bytes.now place c.loop.rest.now)
    (heap_last e counters c.loop.heaps all)
    (c.loop.invariant.on counters)
