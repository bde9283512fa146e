use Rattle.reply_format.specs.Reply.{reply_of}
use Rattle.child_jobs.specs.Reader.{known_head}
use Rattle.child_worker.proofs.Endings.{answered, broken_off, finished}
use Rattle.child_worker.proofs.work.Work.finish.Goals as goal

pub returns-in-Err-clause-breach : goal.returns-in-Err-clause-breach
returns-in-Err-clause-breach c = λ bytes worked.
    c.stop_of.ensures.breach bytes
    (broken_off bytes (known_head c.args.self.reader) worked.given c.in-Err.fault
    (c.in-Err.ensures.end bytes worked.given worked.taken))

pub returns-in-Ok-bytes_of-clause-answers : goal.returns-in-Ok-bytes_of-clause-answers
returns-in-Ok-bytes_of-clause-answers c = λ bytes worked.
    let ended = finished c.args.self _ c.in-Ok.end bytes worked c.head-head.ensures.value
    (c.in-Ok.ensures.end bytes worked.given worked.taken) in
    let reply = c.in-Ok-reply_to.ensures.replies bytes ended in (
      reply.0,
      reply.1,
      answered reply.0 (reply_of c.in-Ok-reply_to.reply) c.in-Ok-bytes_of.bytes.items reply.2
          c.in-Ok-reply_to.ensures.within c.in-Ok-bytes_of.ensures.written,
    )
