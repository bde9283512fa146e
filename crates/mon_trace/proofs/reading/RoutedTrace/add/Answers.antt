use Rattle.std.proofs.Common.{◌∙◌}
use Rattle.mon_trace.proofs.OneMore.{behind_none, behind_one, lists_more}
use Rattle.mon_trace.proofs.reading.RoutedTrace.add.Goals as goal

pub returns-in_default : goal.returns-in_default
returns-in_default c = λ header members member lists is key_is.
    let added = c.in-Ok.ensures.adds header members member lists.counts_are is key_is in
    lists_more c.in-Ok.found member lists added (behind_none _ c.in-Ok.found c.in_default.is)

pub returns-in-Ok-push : goal.returns-in-Ok-push
returns-in-Ok-push c = λ header members member lists is key_is.
    let added = c.in-Ok.ensures.adds header members member lists.counts_are is key_is in
    lists_more c.in-Ok.found member lists added
    (c.in-Ok-push.ensures.items ∙ behind_one _ c.in-Ok.found c.in-Some.routed c.in-Some.is)
