-- Bytes are read as one thing.
use Rattle.std.proofs.Common.{◌≡◌, ◌<◌, ℕ, List, All, Result}
use Rattle.reply_format.specs.Read.{ReadsReply}
use Rattle.reply_format.specs.Reply.{Expect, ExpectReplay, ExpectSolve, IsExpect, Reply}
use Rattle.reply_format.specs.declared.fault.ReplyFault.{ReplyFault}
use Rattle.reply_format.proofs.ReplayReads.{replay_once, replay_always}
use Rattle.reply_format.proofs.SolveReads.{solve_once, solve_always}

-- never as two
pub one_read : (expect : Expect) (bytes : List ℕ) (read other : Result Reply ReplyFault)
    → ReadsReply expect bytes read → ReadsReply expect bytes other → read ≡ other
one_read (ExpectReplay e) bytes read other first second = replay_once e bytes read other first second
one_read (ExpectSolve number) bytes read other first second = solve_once number bytes read other first second

-- and always as one
pub always_read : (expect : Expect) (bytes : List ℕ) → IsExpect expect → All (λ byte. byte < 256) bytes
    → (read : Result Reply ReplyFault) × ReadsReply expect bytes read
always_read (ExpectReplay e) bytes within low = replay_always e bytes within low
always_read (ExpectSolve number) bytes within low = solve_always number bytes low
