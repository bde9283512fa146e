use Rattle.std.proofs.Common.{◌≡◌, ℕ, ◌≤◌, List, None, slice_get, length, take, refl, sym, ◌∙◌, ap, arith}
use Rattle.replay_supervisor.specs.Jobs.{JobsState, Work}
use Rattle.replay_supervisor.proofs.Turns.{feeds-fed, fed-outcome, fed-outs, sealed-outs, sealed-outcome, past-none}
use Rattle.replay_supervisor.proofs.feed.feed_pieces.Goals as goal

pub loop-index-init : goal.loop-index-init
loop-index-init g c = record { work = refl; outs = λ t. refl; is_open = c.requires.open; feeds = λ p start b is f. f }

pub loop-index-preserved : goal.loop-index-preserved
loop-index-preserved g c =
    let ps = (g.J.Jobs.state c.args.jobs.now).work.pieces c.args.job in
    let same = ap (λ (w : Work). w.pieces c.args.job) (sym c.loop-index.invariant.work) in
    record {
      work = ap (λ (s : JobsState). s.work) c.piece.follows.holds-at-none.state ∙ c.loop-index.invariant.work;
      outs = λ t. c.in-Ok.ensures.fed.out t ∙ c.loop-index.invariant.outs t;
      is_open = c.in-Ok.ensures.fed.sealed c.args.ticket ∙ c.loop-index.invariant.is_open;
      feeds = λ p start b is f. feeds-fed p start (g.S.Spawner.state c.loop-index.crew)
          (g.S.Spawner.state c.feed.new.self) (g.J.Jobs.state c.loop-index.jobs)
          (g.J.Jobs.state c.piece.follows.lender-at-none) (g.J.Jobs.stands c.loop-index.jobs)
          (g.J.Jobs.stands c.piece.follows.lender-at-none)
          b c.args.ticket c.args.job c.loop-index.index c.in-Some.piece.now ps is same
          (ap (λ (xs : List (List ℕ)). slice_get xs c.loop-index.index) same ∙ sym c.in-Some.ensures.value)
          c.piece.follows.holds-at-none c.in-Ok.ensures.fed (c.loop-index.invariant.feeds p start b is f);
    }

pub returns-in_default-clause-follows : goal.returns-in_default-clause-follows
returns-in_default-clause-follows g c p start b is f =
    let ps = (g.J.Jobs.state c.args.jobs.now).work.pieces c.args.job in
    let same = ap (λ (w : Work). w.pieces c.args.job) (sym c.loop-index.invariant.work) in
    let none : slice_get ps c.loop-index.index ≡ None = ap (λ (xs : List (List ℕ)). slice_get xs c.loop-index.index)
    same ∙ sym c.in_default.ensures.value in
    sealed-outcome c.seal.result p start (g.S.Spawner.state c.loop-index.crew) (g.S.Spawner.state c.seal.new.self)
    (g.J.Jobs.state c.loop-index.jobs) (g.J.Jobs.state c.piece.follows.lender-at-none)
    (g.J.Jobs.stands c.loop-index.jobs) (g.J.Jobs.stands c.piece.follows.lender-at-none)
    b c.args.ticket c.args.job c.loop-index.index ps is same (past-none ps c.loop-index.index none)
    c.piece.follows.holds-at-none c.seal.ensures.sealed (c.loop-index.invariant.feeds p start b is f)

pub returns-in_default-clause-outs : goal.returns-in_default-clause-outs
returns-in_default-clause-outs g c t = sealed-outs c.seal.result (g.S.Spawner.state c.loop-index.crew)
    (g.S.Spawner.state c.seal.new.self) c.args.ticket t c.seal.ensures.sealed ∙ c.loop-index.invariant.outs t

pub returns-in-Err-clause-follows : goal.returns-in-Err-clause-follows
returns-in-Err-clause-follows g c p start b is f =
    let ps = (g.J.Jobs.state c.args.jobs.now).work.pieces c.args.job in
    fed-outcome c.in-Err.stop p start (g.S.Spawner.state c.loop-index.crew) (g.S.Spawner.state c.feed.new.self)
    (g.J.Jobs.state c.loop-index.jobs) (g.J.Jobs.state c.piece.follows.lender-at-none)
    (g.J.Jobs.stands c.loop-index.jobs) (g.J.Jobs.stands c.piece.follows.lender-at-none)
    b c.args.ticket c.in-Some.piece.now (take c.loop-index.index ps) c.piece.follows.holds-at-none c.in-Err.ensures.fed
    (c.loop-index.invariant.feeds p start b is f)

pub returns-in-Err-clause-outs : goal.returns-in-Err-clause-outs
returns-in-Err-clause-outs g c t = fed-outs c.in-Err.stop (g.S.Spawner.state c.loop-index.crew)
    (g.S.Spawner.state c.feed.new.self) c.args.ticket t c.in-Some.piece.now c.in-Err.ensures.fed
    ∙ c.loop-index.invariant.outs t

pub returns-clause-follows : goal.returns-clause-follows
returns-clause-follows g c p start b is f =
    let ps = (g.J.Jobs.state c.args.jobs.now).work.pieces c.args.job in
    let same = ap (λ (w : Work). w.pieces c.args.job) (sym c.loop-index.invariant.work) in
    let few = g.met.J.Jobs.few c.args.jobs.now c.args.job in
    let far : length ps ≤ c.loop-index.index = omega (arith, few, c.loop-index-test.false) in
    sealed-outcome c.seal-2.result p start (g.S.Spawner.state c.loop-index.crew) (g.S.Spawner.state c.seal-2.new.self)
    (g.J.Jobs.state c.loop-index.jobs) (g.J.Jobs.state c.loop-index.jobs) (g.J.Jobs.stands c.loop-index.jobs)
    (g.J.Jobs.stands c.loop-index.jobs)
    b c.args.ticket c.args.job c.loop-index.index ps is same far (record { state = refl; list = λ places h. h })
    c.seal-2.ensures.sealed (c.loop-index.invariant.feeds p start b is f)

pub returns-clause-outs : goal.returns-clause-outs
returns-clause-outs g c t = sealed-outs c.seal-2.result (g.S.Spawner.state c.loop-index.crew)
    (g.S.Spawner.state c.seal-2.new.self) c.args.ticket t c.seal-2.ensures.sealed ∙ c.loop-index.invariant.outs t

pub feed-requires-clause-out : goal.feed-requires-clause-out
feed-requires-clause-out g c = c.loop-index.invariant.outs c.args.ticket ∙ c.requires.out

pub seal-requires-clause-out : goal.seal-requires-clause-out
seal-requires-clause-out g c = c.loop-index.invariant.outs c.args.ticket ∙ c.requires.out

pub seal-requires-2-clause-out : goal.seal-requires-2-clause-out
seal-requires-2-clause-out g c = c.loop-index.invariant.outs c.args.ticket ∙ c.requires.out

pub piece-requires : goal.piece-requires
piece-requires g c =
    let same = ap (λ (w : Work). w.count) c.loop-index.invariant.work in
    record { known = omega (arith, same, c.requires.numbered) }
