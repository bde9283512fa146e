use Rattle.std.proofs.Common.{◌≤◌, length, drop, sym, arith}
use Rattle.std.proofs.lemmas.List.{length-drop, take_rest}
use Rattle.child_worker.proofs.Pieces.{followed_on, taken_on}
use Rattle.child_worker.proofs.work.Work.take.Goals as goal

pub step-requires : goal.step-requires
step-requires c = record { work = (_, c.loop-start.invariant.1 _ c.requires.work.1) }

pub returns-in-Err-clause-breach : goal.returns-in-Err-clause-breach
returns-in-Err-clause-breach c = λ bytes rest worked.
    let e = c.in-Err.ensures.breach _ rest (c.loop-start.invariant.1 bytes worked) in
    rw (sym (followed_on bytes c.args.piece.now rest c.loop-start.start)) (rw take_rest at e)

pub loop-start-preserved : goal.loop-start-preserved
loop-start-preserved c =
    let e = c.in-Ok.ensures in
    let bound : c.in-Ok.count ≤ length (drop c.loop-start.start c.args.piece.now) = rw take_rest at e.bound in (
      omega (arith, bound, length-drop c.loop-start.start c.args.piece.now, c.loop-start.invariant.0),
      λ bytes worked.
          let k = e.takes _ (c.loop-start.invariant.1 bytes worked) in
          rw (sym (taken_on bytes c.args.piece.now c.loop-start.start c.in-Ok.count)) (rw take_rest at k),
    )
