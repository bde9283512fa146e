use Rattle.mon_trace.proofs.OneMore.{lists_none}
use Rattle.mon_trace.proofs.reading.RoutedTrace.none.Goals as goal

pub returns : goal.returns
returns c = λ topology division header.
    lists_none topology division header _ (c.none.ensures.counts division topology header) c.new.ensures.items
