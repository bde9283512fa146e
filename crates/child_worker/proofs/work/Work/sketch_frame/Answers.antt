use Rattle.std.proofs.Common.{◌+◌, ◌≤◌, List, length, ◌++◌, length-append, arith, rules, subst}
use Rattle.std.proofs.Common.{refl}
use Rattle.job_format.specs.declared.item.Item.{Item}
use Rattle.child_worker.specs.Work.{Sketches}
use Rattle.child_jobs.specs.Reader.{known_head, lent}
use Rattle.child_worker.proofs.Sketching.{caught_up, light_on}
use Rattle.child_worker.proofs.work.Work.sketch_frame.Goals as goal

pub feed_any-requires : goal.feed_any-requires
feed_any-requires c =
    let lags = c.requires.lags.1 in
    record {
      light = rw c.frame-frame.ensures.value (light_on c.args.self.now.levels
          (known_head c.args.self.now.reader) lags.given
          (lent c.args.self.now.reader) (c.frame-frame.ensures.light _ _ lags.taken).0 lags.sketched);
    }

pub overflow_add-self : goal.overflow_add-self
overflow_add-self c =
    let lags = c.requires.lags.1 in
    let few = (c.frame-frame.ensures.light _ _ lags.taken).1 in
    let both = length-append lags.given (lent c.args.self.now.reader) in
    let sum : c.args.self.now.items + length (lent c.args.self.now.reader) ≤ 1048576 =
    omega (arith, few, both, lags.counted) in
    rw c.frame-frame.ensures.value (search rules)

pub returns : goal.returns
returns c = record {
  sketched = λ bytes lags.
      let head = known_head c.args.self.now.reader in
      let frame = c.frame-frame.ensures in
      let Held : List Item → Type 0 = λ items. Sketches c.feed_any.new.levels head (lags.given ++ items) in
      caught_up c.args.self.now _ bytes lags refl (rw frame.value refl)
      (subst Held frame.value
      (c.feed_any.ensures.sketched head lags.given (rw frame.value (frame.before _ _ lags.taken)) lags.sketched));
}
