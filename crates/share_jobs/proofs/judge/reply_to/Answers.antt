use Rattle.std.proofs.Common.{Ok, Err, refl}
use Rattle.hash_family.specs.Setting.{setting_of}
use Rattle.reply_format.specs.Reply.{head_of}
use Rattle.share_jobs.proofs.Judged.{fault_read, reply_read}
use Rattle.share_jobs.proofs.judge.reply_to.Goals as goal

pub returns-in-Ok-clause-good : goal.returns-in-Ok-clause-good
returns-in-Ok-clause-good c =
    (reply_read (head_of c.args.job (setting_of c.args.params) c.args.items c.args.weight) c.args.bytes.now
    (Ok c.in-Ok.reply) c.in-Ok.reply refl c.in-Ok.ensures.reads).0

pub returns-in_default : goal.returns-in_default
returns-in_default c = record {
  good = fault_read (head_of c.args.job (setting_of c.args.params) c.args.items c.args.weight) c.args.bytes.now
      (Err c.in-Err.fault) c.in-Err.fault refl c.in_default.not-Memory c.args.params.within c.check_bytes.ensures
      c.in-Err.ensures.reads;
  spelled = tt;
}
