use Rattle.replay_core.proofs.Attempts.{least-is}
use Rattle.replay_core.proofs.book.Core.least_out.Goals as goal

pub returns-clause-least : goal.returns-clause-least
returns-clause-least c = rw (c.least_out.ensures.value, c.deref.ensures.value, ← c.self.view_is)
    (least-is _ c.self.invariant.1.order)
