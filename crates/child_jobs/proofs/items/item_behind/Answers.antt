use Rattle.std.proofs.Common.{sym, arith, length-take-le}
use Rattle.child_jobs.proofs.items.item_behind.Goals as goal

pub slice_bounds-key_at-end : goal.slice_bounds-key_at-end
slice_bounds-key_at-end c = sym (length-take-le 44 c.args.bytes.now (omega (arith, c.requires.whole)))
