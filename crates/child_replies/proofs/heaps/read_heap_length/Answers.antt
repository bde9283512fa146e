use Rattle.std.proofs.Common.{◌∙◌, sym, refl}
use Rattle.child_replies.specs.Heads.{head_of_job}
use Rattle.child_replies.proofs.HeapFields.{heap_length_on, heap_length_stop}
use Rattle.child_replies.proofs.Moves.{stops_short}
use Rattle.reply_format.specs.Places.{HeapLength}
use Rattle.child_replies.proofs.heaps.read_heap_length.Goals as goal

pub returns-in_default-clause-stop : goal.returns-in_default-clause-stop
returns-in_default-clause-stop c counters heaps = stops_short (head_of_job c.args.job.now)
    (HeapLength counters heaps) c.args.rest.now c.in_default.ensures.short refl

pub returns-then-is_heap_length-clause-on : goal.returns-then-is_heap_length-clause-on
returns-then-is_heap_length-clause-on c counters heaps =
    heap_length_on (head_of_job c.args.job.now) counters heaps c.in-Some.field.now c.in-Some.after.now c.args.rest.now
    c.in-Some.ensures.parts
    c.in-Some.ensures.whole c.read_u16-length.result c.read_u16-length.ensures
    (sym c.is_heap_length.ensures ∙ c.if-is_heap_length.true)

pub returns-else-is_heap_length-clause-stop : goal.returns-else-is_heap_length-clause-stop
returns-else-is_heap_length-clause-stop c counters heaps =
    heap_length_stop (head_of_job c.args.job.now) counters heaps c.in-Some.field.now c.in-Some.after.now c.args.rest.now
    c.in-Some.ensures.parts
    c.in-Some.ensures.whole c.read_u16-length.result c.read_u16-length.ensures
    (sym c.is_heap_length.ensures ∙ c.if-is_heap_length.false)
