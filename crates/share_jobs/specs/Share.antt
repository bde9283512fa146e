-- The job of a share.
use Rattle.std.specs.Prelude.{ℕ, Bool, true, List, map}
use Rattle.hash_family.specs.Setting.{setting_of}
use Rattle.reply_format.specs.Reply.{ReplayHead, head_of}
use Rattle.share_jobs.specs.declared.share_job.ShareJob.{ShareJob}

-- a share's job: what a reply to it must say, what is fed to a child, and whether a reply was taken
pub record Share : Type 0 where
  pub head : ReplayHead
  pub pieces : List (List ℕ)
  pub taken : Bool

-- as clauses see it
abbrev pub share_of : ShareJob → Share
share_of job = record {
  head = head_of job.number (setting_of job.params) job.items job.weight;
  pieces = map (λ piece. piece.items) job.pieces.items;
  taken = job.is_taken;
}

-- the same share behind a reply
abbrev pub with_taken : Share → Share
with_taken share = record { head = share.head; pieces = share.pieces; taken = true }
