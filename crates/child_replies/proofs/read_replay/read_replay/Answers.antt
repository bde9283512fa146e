use Rattle.std.proofs.Common.{Result, Err, ap, inl, inr, refl}
use Rattle.child_replies.specs.Heads.{head_of_job}
use Rattle.reply_format.proofs.ReplayBack.{replay_back}
use Rattle.child_replies.proofs.Tops.{replay_stop}
use Rattle.reply_format.specs.declared.fault.ReplyFault.{ReplyFault}
use Rattle.reply_format.specs.declared.reply.Reply.{Reply}
use Rattle.child_replies.proofs.read_replay.read_replay.Goals as goal

pub returns-in-Ok : goal.returns-in-Ok
returns-in-Ok c =
    inr (
      refl,
      replay_back (head_of_job c.args.job) c.args.bytes.now
          (record { counters = c.in-Ok.body.counters; heaps = c.in-Ok.body.heaps })
          c.args.job.params.within c.check_bytes.ensures c.in-Ok.ensures.on,
    )

pub returns-in-Err : goal.returns-in-Err
returns-in-Err c =
    elim c.in-Err.ensures.stop [
      | inl full ↦ inl (ap (λ (fault : ReplyFault). let read : Result Reply ReplyFault = Err fault in read) full)
      | inr there ↦ inr (replay_stop (head_of_job c.args.job) c.args.bytes.now c.in-Err.fault there)
    ]
