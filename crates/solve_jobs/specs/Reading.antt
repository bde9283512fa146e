-- Whether bytes are such a reply, by what they are read as.
use Rattle.std.specs.Prelude.{◌≡◌, ◌<◌, ℕ, ◌==◌, ◌&&◌, nat_lt, Bool, true, false, List, [], ◌∷◌, All, Option, None, Some, Result, Ok, Err, refl}
use Rattle.std.proofs.lemmas.Bool.{and_parts, ltb-true}
use Rattle.std.proofs.lemmas.List.Elements.{All-nil, All-cons}
use Rattle.bound_certificate.specs.Outcome.{is_right}
use Rattle.bound_certificate.specs.Problem.{Problem}
use Rattle.bound_certificate.specs.declared.outcome.Outcome.{Outcome}
use Rattle.reply_format.proofs.OneRead.{always_read}
use Rattle.reply_format.specs.Reply.{ExpectSolve, Reply, Replay, Solve}
use Rattle.reply_format.specs.declared.fault.ReplyFault.{ReplyFault}
use Rattle.reply_format.specs.declared.fault.ReplyFault.TheVariants.{Shape}

-- whether each number is one of a byte
abbrev pub are_bytes : List ℕ → Bool
are_bytes [] = true
are_bytes (byte ∷ bytes) = nat_lt byte 256 && are_bytes bytes

pub low_bytes : (bytes : List ℕ) → are_bytes bytes ≡ true → All (λ byte. byte < 256) bytes
low_bytes [] is = All-nil (λ byte. byte < 256)
low_bytes (byte ∷ bytes) is =
    let parts = and_parts (nat_lt byte 256) (are_bytes bytes) is in
    All-cons (λ byte. byte < 256) byte bytes (ltb-true byte 256 parts.0) (low_bytes bytes parts.1)

-- what bytes are read as, where a reply to job 0 is expected; numbers that are none of bytes are no reply
abbrev pub read_where : (bytes : List ℕ) (are : Bool) → are_bytes bytes ≡ are → Result Reply ReplyFault
read_where bytes true is = (always_read (ExpectSolve 0) bytes tt (low_bytes bytes is)).0
read_where bytes false is = Err Shape

unfoldable pub reading : List ℕ → Result Reply ReplyFault
reading bytes = read_where bytes (are_bytes bytes) refl

-- the outcome that was read
abbrev pub outcome_in : Result Reply ReplyFault → Option Outcome
outcome_in (Ok (Replay reply)) = None
outcome_in (Ok (Solve reply)) = Some reply.outcome
outcome_in (Err fault) = None

-- whether there is one, and it is right
abbrev pub is_right_one : Problem → ℕ → Option Outcome → Bool
is_right_one problem nodes None = false
is_right_one problem nodes (Some outcome) = is_right problem nodes outcome

-- whether bytes are a good reply to a job, of which there is one
abbrev pub is_good : Problem → ℕ → ℕ → List ℕ → Bool
is_good problem nodes job bytes = job == 0 && is_right_one problem nodes (outcome_in (reading bytes))
