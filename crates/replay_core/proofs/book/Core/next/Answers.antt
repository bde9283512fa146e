use Rattle.std.proofs.Common.{sym, subst}
use Rattle.replay_core.specs.Next.{IsNext}
use Rattle.replay_core.specs.declared.want.Want.{Want}
use Rattle.replay_core.proofs.Windows.{is-next}
use Rattle.replay_core.proofs.book.Core.next.Goals as goal

pub returns-clause-facts : goal.returns-clause-facts
returns-clause-facts c = subst (λ (w : Want). IsNext c.args.self.now w) (sym c.first_want.ensures.value)
    (is-next c.args.self.now c.first_want.ensures.kept)
