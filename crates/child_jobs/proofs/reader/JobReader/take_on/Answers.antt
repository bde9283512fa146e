use Rattle.std.proofs.Common.{◌≡◌, List, ℕ, length, subst, ap, arith, length-drop}
use Rattle.byte_format.specs.Format.{Broken, reached}
use Rattle.job_format.specs.Places.{job_format}
use Rattle.child_jobs.specs.Reader.{state}
use Rattle.child_jobs.proofs.Moves.{broken_rest, moves_on, stays}
use Rattle.child_jobs.proofs.reader.JobReader.take_on.Goals as goal

pub loop-taken-init : goal.loop-taken-init
loop-taken-init c = (omega arith, stays c.args.self.now c.requires.going c.requires.within, c.requires.within)

pub loop-taken-preserved : goal.loop-taken-preserved
loop-taken-preserved c = (
  omega (
    arith,
    c.loop-taken.invariant.0,
    c.in-Ok.ensures.bound,
    ap length c.rest_of.ensures,
    length-drop
        c.loop-taken.taken c.args.piece.now,
  ),
  moves_on c.args.self.now c.loop-taken.self c.step.new.self c.args.piece.now c.rest_of.result.now c.loop-taken.taken
      c.in-Ok.count c.rest_of.ensures c.loop-taken.invariant.1 c.loop-taken.invariant.2 c.in-Ok.ensures.moves,
  c.if-self.false,
)

pub returns-then-self-clause-moves : goal.returns-then-self-clause-moves
returns-then-self-clause-moves c =
    moves_on c.args.self.now c.loop-taken.self c.step.new.self c.args.piece.now c.rest_of.result.now c.loop-taken.taken
    c.in-Ok.count c.rest_of.ensures c.loop-taken.invariant.1 c.loop-taken.invariant.2 c.in-Ok.ensures.moves

pub returns-in-Err-clause-breach : goal.returns-in-Err-clause-breach
returns-in-Err-clause-breach c =
    broken_rest (state c.args.self.now) (state c.loop-taken.self) c.args.piece.now c.loop-taken.taken c.in-Err.fault
    c.loop-taken.invariant.1.leads
    (subst (λ (l : List ℕ). reached job_format (state c.loop-taken.self) l ≡ Broken c.in-Err.fault) c.rest_of.ensures
    c.in-Err.ensures.breach)
