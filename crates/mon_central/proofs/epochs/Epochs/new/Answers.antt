use Rattle.mon_central.proofs.OneMore.{divides_none}
use Rattle.mon_central.proofs.epochs.Epochs.new.Goals as goal

pub returns : goal.returns
returns c = λ topology header. divides_none c.args.setting.now topology header
    _ _ _ (c.none.ensures.counts c.args.setting.now.division topology header)
    c.new-sketches.ensures.items c.in_ok-reach.ensures.number c.in_ok-reach.ensures.splits
