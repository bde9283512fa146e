use Rattle.child_worker.proofs.Feeding.{fed_more_is}
use Rattle.child_worker.proofs.work.feed_all.Goals as goal

pub loop-item-preserved : goal.loop-item-preserved
loop-item-preserved c =
    let e = c.feed.ensures in
    fed_more_is c.args.levels.now c.loop-item.levels c.feed.new.self c.args.items.now c.loop-item.item-index
    c.item-item.result c.loop-item-test.true c.item-item.is c.loop-item.invariant e.setting e.weight e.list
