use Rattle.std.proofs.Common.{◌∙◌, ◌-◌, ◌+◌, ◌<◌, ◌++◌, ◌∷◌, [], ℕ, List, sym, ap, inr, subst, arith}
use Rattle.child_replies.specs.Heads.{head_of_job}
use Rattle.child_replies.specs.Steps.{Moves, Stops}
use Rattle.child_replies.proofs.HeapFields.{key_more, next_key}
use Rattle.child_replies.proofs.Moves.{stops_on}
use Rattle.reply_format.specs.Places.{HeapKey, Place, behind_key, replay_format}
use Rattle.byte_format.specs.Format.{At, reached}
use Rattle.reply_format.specs.declared.heap.Heap.{Heap}
use Rattle.child_replies.proofs.heaps.read_keys.Goals as goal

pub returns-in-Err-clause-stop : goal.returns-in-Err-clause-stop
returns-in-Err-clause-stop c counters heaps =
    let e = head_of_job c.args.job.now in
    let left : ℕ = c.args.count - c.loop.counter in
    let some : 0 < left = omega (arith, c.loop-test.true) in
    let heap : Heap = record { dropped = c.args.dropped; keys = c.loop.keys } in
    let start : Place = behind_key e counters heaps (record { dropped = c.args.dropped; keys = [] }) c.args.count in
    inr (stops_on e start (HeapKey counters heaps heap left) c.args.bytes.now c.loop.rest.now c.in-Err.fault
    (subst (λ (place : Place). Moves e start c.args.bytes.now place c.loop.rest.now)
    (key_more e counters heaps heap left some) (c.loop.invariant counters heaps))
    (subst (λ (keys : List (List ℕ)). Stops e
    (HeapKey counters heaps (record { dropped = c.args.dropped; keys = keys }) left) c.loop.rest.now c.in-Err.fault)
    c.as_slice.ensures (c.in-Err.ensures.stop e counters heaps c.args.dropped left)))

pub loop-preserved : goal.loop-preserved
loop-preserved c counters heaps =
    let e = head_of_job c.args.job.now in
    let left : ℕ = c.args.count - c.loop.counter in
    let some : 0 < left = omega (arith, c.loop-test.true) in
    let heap : Heap = record { dropped = c.args.dropped; keys = c.loop.keys } in
    let start : Place = behind_key e counters heaps (record { dropped = c.args.dropped; keys = [] }) c.args.count in
    subst (λ (place : Place). Moves e start c.args.bytes.now place c.loop.rest.now)
    (key_more e counters heaps heap left some) (c.loop.invariant counters heaps)
    ∙ subst (λ (keys : List (List ℕ)). Moves e
    (HeapKey counters heaps (record { dropped = c.args.dropped; keys = keys }) left) c.loop.rest.now
    (behind_key e counters heaps (record { dropped = c.args.dropped; keys = keys ++ c.in-Ok.read.0 ∷ [] }) (left - 1))
    c.in-Ok.read.1.now)
    c.as_slice.ensures (c.in-Ok.ensures.on e counters heaps c.args.dropped left)
    ∙ ap (λ (place : Place). reached (replay_format e) (At place []) c.in-Ok.read.1.now)
    (next_key e counters heaps c.args.dropped (c.loop.keys ++ c.in-Ok.read.0 ∷ []) c.push.new.self (left - 1)
    (c.args.count - (c.loop.counter + 1))
    (sym c.in-Ok-push.ensures.ok) (omega arith))
