use Rattle.std.proofs.Common.{◌≡◌, ◌∙◌, ◌<◌, [], List, ℤ, length, sym, ap, inr, eqb-true}
use Rattle.byte_format.specs.Format.{At}
use Rattle.child_replies.specs.Heads.{head_of_job}
use Rattle.child_replies.proofs.Ends.{end_extra, end_whole, some_left}
use Rattle.child_replies.proofs.Moves.{may_stop_on, stops_on}
use Rattle.reply_format.specs.Places.{Body, End, HeapLength}
use Rattle.reply_format.specs.Places as places
use Rattle.reply_format.specs.declared.fault.ReplyFault.TheVariants.{Extra}
use Rattle.child_replies.proofs.read_replay.read_body.Goals as goal

pub returns-in-Err-read_heaps-clause-stop : goal.returns-in-Err-read_heaps-clause-stop
returns-in-Err-read_heaps-clause-stop c =
    let e = head_of_job c.args.job.now in
    let counters : List ℤ = c.in-Ok-read_counters.read.0.items in
    may_stop_on e places.Magic (HeapLength counters []) c.args.bytes.now c.in-Ok-read_counters.read.1.now
    c.in-Err-read_heaps.fault
    (c.in-Ok.ensures.on ∙ c.in-Ok-read_counters.ensures.on) (c.in-Err-read_heaps.ensures.stop counters)

pub returns-then-not-is_empty-clause-stop : goal.returns-then-not-is_empty-clause-stop
returns-then-not-is_empty-clause-stop c =
    let e = head_of_job c.args.job.now in
    let body : Body = record { counters = c.in-Ok-read_counters.read.0.items; heaps = c.in-Ok-read_heaps.read.0 } in
    let some : 0 < length c.in-Ok-read_heaps.read.1.now =
    some_left c.in-Ok-read_heaps.read.1.now (sym c.is_empty.ensures ∙ c.if-not-is_empty.true) in
    inr (stops_on e places.Magic (End body) c.args.bytes.now c.in-Ok-read_heaps.read.1.now Extra
    (c.in-Ok.ensures.on ∙ c.in-Ok-read_counters.ensures.on
    ∙ c.in-Ok-read_heaps.ensures.on c.in-Ok-read_counters.read.0.items)
    (end_extra e body c.in-Ok-read_heaps.read.1.now some))

pub returns-clause-on : goal.returns-clause-on
returns-clause-on c =
    let e = head_of_job c.args.job.now in
    let counters : List ℤ = c.in-Ok-read_counters.read.0.items in
    let body : Body = record { counters = counters; heaps = c.in-Ok-read_heaps.read.0 } in
    let none : length c.in-Ok-read_heaps.read.1.now ≡ 0 =
    eqb-true (length c.in-Ok-read_heaps.read.1.now) 0 (sym c.is_empty.ensures ∙ c.if-not-is_empty.false) in
    c.in-Ok.ensures.on ∙ c.in-Ok-read_counters.ensures.on ∙ c.in-Ok-read_heaps.ensures.on counters
    ∙ end_whole e body c.in-Ok-read_heaps.read.1.now none
    ∙ ap (λ (cs : List ℤ). At (End (record { counters = cs; heaps = c.in-Ok-read_heaps.read.0 })) [])
    (sym c.from_vec.ensures)
