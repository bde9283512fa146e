use Rattle.std.proofs.Common.{inl, inr, subst, sym}
use Rattle.reply_format.proofs.OneRead.{one_read}
use Rattle.reply_format.specs.Read.{ReadsReply, read_as}
use Rattle.reply_format.specs.Reply.{expect_of}
use Rattle.reply_format.specs.declared.expect.Expect.{Expect}
use Rattle.child_replies.proofs.read.read_reply.Goals as goal

pub returns-in-Replay-clause-alone : goal.returns-in-Replay-clause-alone
returns-in-Replay-clause-alone c other reads =
    elim c.read_replay.ensures [
      | inl full ↦ inl full
      | inr read ↦ inr (one_read (expect_of c.args.expect.now) c.args.bytes.now (read_as c.read_replay.result) other
          (subst (λ (expect : Expect). ReadsReply (expect_of expect) c.args.bytes.now (read_as c.read_replay.result))
          (sym c.in-Replay.is) read) reads)
    ]

pub returns-in-Solve-clause-alone : goal.returns-in-Solve-clause-alone
returns-in-Solve-clause-alone c other reads =
    elim c.read_solve.ensures [
      | inl full ↦ inl full
      | inr read ↦ inr (one_read (expect_of c.args.expect.now) c.args.bytes.now (read_as c.read_solve.result) other
          (subst (λ (expect : Expect). ReadsReply (expect_of expect) c.args.bytes.now (read_as c.read_solve.result))
          (sym c.in-Solve.is) read) reads)
    ]
