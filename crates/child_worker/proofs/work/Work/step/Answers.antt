use Rattle.child_worker.proofs.Sketching.{lagging}
use Rattle.child_worker.proofs.work.Work.step.Goals as goal

pub returns-in-Err-clause-breach : goal.returns-in-Err-clause-breach
returns-in-Err-clause-breach c = λ bytes rest worked. c.in-Err.ensures.breach bytes rest worked.given worked.taken

pub sketch_frame-requires : goal.sketch_frame-requires
sketch_frame-requires c = record {
  lags = (
    _,
    lagging c.args.self.now c.open.new.self c.feed.new.self _ c.args.piece.now c.in-Ok.count c.requires.work.1
        c.in-Ok.ensures.takes c.in-Ok.ensures.head c.open.ensures.reader c.open.ensures.items
        c.in-Ok-open.ensures.opens,
  );
}

pub returns-clause-takes : goal.returns-clause-takes
returns-clause-takes c = λ bytes worked. c.sketch_frame.ensures.sketched _
    (lagging c.args.self.now c.open.new.self c.feed.new.self bytes c.args.piece.now c.in-Ok.count worked
    c.in-Ok.ensures.takes c.in-Ok.ensures.head c.open.ensures.reader c.open.ensures.items c.in-Ok-open.ensures.opens)
