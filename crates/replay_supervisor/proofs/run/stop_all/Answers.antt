use Rattle.std.proofs.Common.{refl, sym, ◌∙◌, arith}
use Rattle.replay_supervisor.proofs.Stopping.{first-is-out, first-has-job, none-is-out, empty-is-out, stops-more, stops-none, stops-log}
use Rattle.replay_supervisor.proofs.run.stop_all.Goals as goal

pub loop-turn-init : goal.loop-turn-init
loop-turn-init g c = record {
  few = omega (arith, c.requires.book.room, c.requires.book.window_few);
  outs = c.requires.outs;
  is_book = c.requires.book;
  issued = refl;
  faults = omega arith;
  tells = λ start log is. (log, is, refl);
}

pub stop-requires : goal.stop-requires
stop-requires g c = record {
  out = c.loop-turn.invariant.outs c.in-Some.ticket
      ∙ first-is-out c.loop-turn.core.outs c.in-Some.ticket (sym c.in-Some.ensures.value);
}

pub stopped-requires : goal.stopped-requires
stopped-requires g c = record {
  out = first-has-job c.loop-turn.core.outs c.in-Some.ticket (sym c.in-Some.ensures.value);
}

pub loop-turn-preserved : goal.loop-turn-preserved
loop-turn-preserved g c = stops-more c.loop-turn.turn (g.S.Spawner.state c.args.crew.now)
    (g.S.Spawner.state c.loop-turn.crew) (g.S.Spawner.state c.stop.new.self) c.args.core.now c.loop-turn.core
    c.stopped.new.self c.in-Some.ticket c.loop-turn.invariant (sym c.in-Some.ensures.value) c.stop.ensures.stopped
    c.stopped.ensures.book c.stopped.ensures.kept

pub returns-in_default : goal.returns-in_default
returns-in_default g c =
    let none = none-is-out c.loop-turn.core.outs (sym c.in_default.ensures.value) in
    record {
      stopped = record {
        none_out = stops-none c.loop-turn.turn (g.S.Spawner.state c.args.crew.now) (g.S.Spawner.state c.loop-turn.crew)
            c.args.core.now c.loop-turn.core c.loop-turn.invariant none;
        tells = stops-log c.loop-turn.turn (g.S.Spawner.state c.args.crew.now) (g.S.Spawner.state c.loop-turn.crew)
            c.args.core.now c.loop-turn.core c.loop-turn.invariant none;
        issued = c.loop-turn.invariant.issued;
        faults = c.loop-turn.invariant.faults;
      };
    }

pub returns : goal.returns
returns g c =
    let none = empty-is-out c.loop-turn.core.outs (omega (arith, c.loop-turn.invariant.few, c.loop-turn-test.false)) in
    record {
      stopped = record {
        none_out = stops-none c.loop-turn.turn (g.S.Spawner.state c.args.crew.now) (g.S.Spawner.state c.loop-turn.crew)
            c.args.core.now c.loop-turn.core c.loop-turn.invariant none;
        tells = stops-log c.loop-turn.turn (g.S.Spawner.state c.args.crew.now) (g.S.Spawner.state c.loop-turn.crew)
            c.args.core.now c.loop-turn.core c.loop-turn.invariant none;
        issued = c.loop-turn.invariant.issued;
        faults = c.loop-turn.invariant.faults;
      };
    }
