use Rattle.std.proofs.Common.{arith}
use Rattle.child_jobs.proofs.Written.{frames_none, frames_more, kept_on}
use Rattle.child_jobs.proofs.write.put_frames.Goals as goal

pub loop-done-init : goal.loop-done-init
loop-done-init c = (omega arith, frames_none c.args.out.now.items c.args.items.now)

pub returns-in_err-put_frame-clause-kept : goal.returns-in_err-put_frame-clause-kept
returns-in_err-put_frame-clause-kept c =
    kept_on c.args.out.now.items _ c.loop-done.out.items c.put_frame.new.out.items c.loop-done.invariant.1.written
    c.put_frame.ensures.kept

pub loop-done-preserved : goal.loop-done-preserved
loop-done-preserved c = (
  omega (arith, c.min-end.ensures),
  frames_more c.args.out.now.items c.loop-done.out.items c.put_frame.new.out.items c.args.items.now c.loop-done.done
      c.min-end.result (omega arith) (omega (arith, c.min-end.ensures)) (omega (arith, c.min-end.ensures))
      (omega (arith, c.min-end.ensures))
      (λ more. omega (arith, c.min-end.ensures)) c.loop-done.invariant.1 c.in_ok-put_frame.ensures.written,
)
