use Rattle.reply_format.specs.Reply.{nonzero_count}
use Rattle.child_replies.proofs.write_row.row_count.Goals as goal

pub returns : goal.returns
unfolding nonzero_count
returns c = c.nonzero.ensures.value
