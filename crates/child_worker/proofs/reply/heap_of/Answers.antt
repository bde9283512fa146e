use Rattle.std.proofs.Common.{length, ◌∙◌, ap, sym}
use Rattle.sketch_levels.specs.Items.{live_items}
use Rattle.child_worker.proofs.Filled.{filled}
use Rattle.child_worker.proofs.reply.heap_of.Goals as goal

pub returns-clause-within : goal.returns-clause-within
returns-clause-within c = λ items holds.
    let keys = c.in_ok-keys.ensures in
    let own = live_items c.args.levels.now.setting.seed c.args.level items in
    record {
      each = rw c.from_vec.ensures (rw c.deref.ensures.value at c.check_keys.ensures);
      ascending = rw c.from_vec.ensures keys.ascending;
      few = rw c.from_vec.ensures keys.few;
      full = λ dropped. ap length (c.from_vec.ensures ∙ keys.list items holds)
          ∙ filled c.args.levels.now.setting c.args.level own (sym (c.dropped.ensures.list items holds) ∙ dropped);
    }
