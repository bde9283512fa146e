use Rattle.std.proofs.Common.{◌≡◌, sym, ◌∙◌, arith}
use Rattle.mon_central.proofs.LiveCounts.{all_counted, one_more}
use Rattle.mon_central.proofs.live.count_live.Goals as goal

pub returns-clause-live : goal.returns-clause-live
returns-clause-live c = λ seed top key size is.
    all_counted seed top key c.args.levels c.args.packets _ _ c.loop-level.level c.loop-level.invariant.0 size
    (omega arith) (λ short. omega (arith, short)) is

pub returns-clause-weights : goal.returns-clause-weights
returns-clause-weights c = λ seed top key size is.
    all_counted seed top key c.args.levels c.args.weight _ _ c.loop-level.level c.loop-level.invariant.1
    (c.requires.same ∙ size) (omega arith) (λ short. omega (arith, short, c.requires.same)) is

pub loop-level-preserved : goal.loop-level-preserved
loop-level-preserved c = (
  one_more _ _ _ _ c.loop-level.invariant.0 (omega arith),
  one_more _ _ _ _ c.loop-level.invariant.1
      (omega (arith, c.loop-level.invariant.0.size, c.loop-level.invariant.1.size, c.requires.same)),
)
