use Rattle.std.proofs.Common.{ℕ, below_more, get_or, subst, ◌∙◌}
use Rattle.std.proofs.lemmas.List.{get_or_default}
use Rattle.flow_keys.specs.Key.{IsKey}
use Rattle.child_worker.proofs.reply.check_keys.Goals as goal

pub loop-key-preserved : goal.loop-key-preserved
loop-key-preserved c = λ k d.
    below_more (λ (j : ℕ). IsKey (get_or c.args.keys.now j d)) c.loop-key.key-index
    (λ j under. c.loop-key.invariant j d under)
    (subst IsKey (c.key-item.is
    ∙ get_or_default c.args.keys.now c.loop-key.key-index c.key-item.result d c.loop-key-test.true)
    c.words.ensures.valid) k
