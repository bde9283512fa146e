use Rattle.std.proofs.Common.{ℕ, arith, length-take, length-drop}
use Rattle.mon_io.proofs.Told.{on_err, grew_on, grew_by_front}
use Rattle.mon_io.proofs.sink.write_all.Goals as goal

-- the written part, after a write that failed
pub returns-in_err-written-clause-part : goal.returns-in_err-written-clause-part
returns-in_err-written-clause-part g c =
    on_err c.from_residual.result (grew_by_front _ _ c.loop-written.invariant.0.grew c.in_err-written.ensures.bytes)

pub loop-written-preserved : goal.loop-written-preserved
loop-written-preserved g c = (
  record {
    within =
        let taken = c.in_ok-written.ensures.bytes.0 in omega
        (arith, taken, c.loop-written.invariant.0.within, length-take {A = ℕ}, length-drop {A = ℕ});
    grew = grew_on _ _ _ c.loop-written.invariant.0.grew c.in_ok-written.ensures.bytes.2;
    later = omega (arith, c.loop-written.invariant.0.later, c.write.ensures.cause.later);
  },
  omega (arith, c.loop-written.invariant.1, c.in_ok-written.ensures.sure),
)
