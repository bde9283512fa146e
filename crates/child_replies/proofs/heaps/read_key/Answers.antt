use Rattle.std.proofs.Common.{◌∙◌, sym, refl}
use Rattle.child_replies.proofs.HeapFields.{key_below, key_none, key_on}
use Rattle.child_replies.proofs.Moves.{stops_short}
use Rattle.reply_format.specs.Places.{HeapKey}
use Rattle.child_replies.proofs.heaps.read_key.Goals as goal

pub returns-in_default-clause-stop : goal.returns-in_default-clause-stop
returns-in_default-clause-stop c head counters heaps dropped left =
    stops_short head (HeapKey counters heaps (record { dropped = dropped; keys = c.args.keys.now }) left)
    c.args.rest.now c.in_default.ensures.short refl

pub returns-in_default-key_at-clause-stop : goal.returns-in_default-key_at-clause-stop
returns-in_default-key_at-clause-stop c head counters heaps dropped left =
    key_none head counters heaps c.in-Some.field.now c.in-Some.after.now c.args.rest.now c.in-Some.ensures.parts
    c.in-Some.ensures.whole
    dropped c.args.keys.now left c.in_default-key_at.ensures.key

pub returns-then-is_above-clause-on : goal.returns-then-is_above-clause-on
returns-then-is_above-clause-on c head counters heaps dropped left =
    key_on head counters heaps c.in-Some.field.now c.in-Some.after.now c.args.rest.now c.in-Some.ensures.parts
    c.in-Some.ensures.whole
    dropped c.args.keys.now left c.in-Some-key_at.key c.in-Some-key_at.ensures.key.1 c.in-Some-key_at.ensures.key.0
    (sym c.is_above.ensures ∙ c.if-is_above.true)

pub returns-else-is_above-clause-stop : goal.returns-else-is_above-clause-stop
returns-else-is_above-clause-stop c head counters heaps dropped left =
    key_below head counters heaps c.in-Some.field.now c.in-Some.after.now c.args.rest.now c.in-Some.ensures.parts
    c.in-Some.ensures.whole
    dropped c.args.keys.now left c.in-Some-key_at.key c.in-Some-key_at.ensures.key.1
    (sym c.is_above.ensures ∙ c.if-is_above.false)
