use Rattle.std.proofs.Common.{Result, Err, ap, inl, inr}
use Rattle.child_replies.proofs.SolveFields.{may_stop_on}
use Rattle.child_replies.proofs.Tops.{solve_stop}
use Rattle.reply_format.specs.Outcomes as solves
use Rattle.reply_format.specs.declared.fault.ReplyFault.{ReplyFault}
use Rattle.reply_format.specs.declared.reply.Reply.{Reply}
use Rattle.child_replies.proofs.read_solve.read_solve.Goals as goal

pub returns-in-Err : goal.returns-in-Err
returns-in-Err c = inr (solve_stop c.args.job c.args.bytes.now c.in-Err.fault c.in-Err.ensures.stop)

pub returns-in-Err-read_found : goal.returns-in-Err-read_found
returns-in-Err-read_found c =
    elim (may_stop_on c.args.job solves.Magic solves.Outcome c.args.bytes.now c.in-Ok.rest.now c.in-Err-read_found.fault
    c.in-Ok.ensures.on (c.in-Err-read_found.ensures.stop c.args.job)) [
      | inl full ↦ inl (ap (λ (fault : ReplyFault). let read : Result Reply ReplyFault = Err fault in read) full)
      | inr there ↦ inr (solve_stop c.args.job c.args.bytes.now c.in-Err-read_found.fault there)
    ]
