use Rattle.std.proofs.Common.{◌∙◌, ap, sym}
use Rattle.std.specs.Ordering.{is_lt}
use Rattle.child_replies.proofs.HeapFields.{above_last, above_none}
use Rattle.child_replies.proofs.heaps.is_above.Goals as goal

pub returns-in_default : goal.returns-in_default
returns-in_default c = above_none c.args.keys.now c.args.key.now (sym c.in_default.ensures.value)

pub returns : goal.returns
returns c =
    c.is_lt.ensures ∙ ap is_lt c.compare.ensures.order
    ∙ above_last c.args.keys.now c.args.key.now c.in-Some.last.now (sym c.in-Some.ensures.value)
