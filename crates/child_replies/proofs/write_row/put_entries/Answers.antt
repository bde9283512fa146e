use Rattle.std.proofs.Common.{◌++◌, arith}
use Rattle.reply_format.specs.Reply.{entries_bytes}
use Rattle.child_replies.proofs.Entries.{entries_end, entries_step}
use Rattle.child_replies.proofs.write_row.put_entries.Goals as goal

pub loop-place-preserved : goal.loop-place-preserved
loop-place-preserved c =
    let found = c.in-Some.ensures.found in
    record {
      items = entries_step (c.args.out.now.items ++ entries_bytes 0 c.args.row.now) c.loop-place.out.items
          c.put_entry.new.out.items c.args.row.now
          c.loop-place.from c.in-Some.place c.in_ok-put_entry.ensures found.0 found.1 found.2 found.3
          c.loop-place.invariant.items;
      within = omega (arith, found.1);
    }

pub returns : goal.returns
returns c =
    entries_end (c.args.out.now.items ++ entries_bytes 0 c.args.row.now) c.loop-place.out.items c.args.row.now
    c.loop-place.from
    c.loop-place.invariant.within c.in_default.ensures.none c.loop-place.invariant.items
