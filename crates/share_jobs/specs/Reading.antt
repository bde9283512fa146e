-- Whether bytes are a reply to a replay job, by what they are read as.
use Rattle.std.specs.Prelude.{◌≡◌, ℕ, ◌&&◌, Bool, true, false, List, Option, None, Some, is_some, Result, Ok, Err, refl}
use Rattle.std.proofs.lemmas.Bool.{and_parts}
use Rattle.hash_family.specs.Limits.{are_within}
use Rattle.hash_family.specs.Setting.{Setting}
use Rattle.reply_format.proofs.OneRead.{always_read}
use Rattle.reply_format.specs.Reply.{ExpectReplay, ReplayHead, ReplayReply, Reply, Replay, Solve, SpellsReply}
use Rattle.reply_format.specs.declared.fault.ReplyFault.{ReplyFault}
use Rattle.reply_format.specs.declared.fault.ReplyFault.TheVariants.{Shape}
use Rattle.solve_jobs.specs.Reading.{are_bytes, low_bytes}

-- bytes spell a reply to the replay job of this head
pub record IsReplyTo (head : ReplayHead) (bytes : List ℕ) : Type 0 where
  pub reply : ReplayReply
  pub head_is : reply.head ≡ head
  pub spelled : SpellsReply (Replay reply) bytes

-- this is a reply to that replay job, which bytes spell
abbrev pub IsReplyOf : ReplayHead → Reply → List ℕ → Type 0
IsReplyOf head (Replay reply) bytes = (reply.head ≡ head) × SpellsReply (Replay reply) bytes
IsReplyOf head (Solve reply) bytes = ⊥

-- whether the numbers of a sketch are within their limits
abbrev pub is_within : Setting → Bool
is_within setting = are_within setting.levels setting.rows setting.width setting.heap

-- what bytes are read as, where a reply to a replay job is expected; numbers that are none of bytes are no reply
abbrev pub read_where : (head : ReplayHead) (bytes : List ℕ) (fits : Bool)
    → (is_within head.setting && are_bytes bytes) ≡ fits → Result Reply ReplyFault
read_where head bytes true fits =
    let parts = and_parts (is_within head.setting) (are_bytes bytes) fits in
    (always_read (ExpectReplay head) bytes parts.0 (low_bytes bytes parts.1)).0
read_where head bytes false fits = Err Shape

unfoldable pub reading : ReplayHead → List ℕ → Result Reply ReplyFault
reading head bytes = read_where head bytes (is_within head.setting && are_bytes bytes) refl

-- the replay reply that was read
abbrev pub replay_in : Result Reply ReplyFault → Option ReplayReply
replay_in (Ok (Replay reply)) = Some reply
replay_in (Ok (Solve reply)) = None
replay_in (Err fault) = None

-- whether there is one
abbrev pub is_good : ReplayHead → List ℕ → Bool
is_good head bytes = is_some (replay_in (reading head bytes))
