-- What bytes are read as where a reply to job 0 is expected, and which are good.
use Rattle.std.proofs.Common.{◌≡◌, ◌<◌, ◌↔◌, ◌==◌, ℕ, Bool, true, false, List, [], ◌∷◌, All, ◌⊎◌, inl, inr, None, Some, Result, Ok, Err, refl, sym, ◌∙◌, ap, subst}
use Rattle.std.proofs.lemmas.Bool.{and_parts, eqb-true, eq-eqb, lt-ltb, true≢false}
use Rattle.std.proofs.lemmas.List.Elements.{All-head, All-tail}
use Rattle.std.specs.Cmp.Derive.{both_true}
use Rattle.bound_certificate.specs.Problem.{Problem}
use Rattle.bound_certificate.specs.declared.outcome.Outcome.{Outcome}
use Rattle.reply_format.proofs.OneRead.{always_read, one_read}
use Rattle.reply_format.specs.Read.{ReadsReply, read_as}
use Rattle.reply_format.specs.Reply.{ExpectSolve, Reply, Replay, Solve, SolveReply, SpellsReply}
use Rattle.reply_format.specs.declared.fault.ReplyFault.{ReplyFault}
use Rattle.reply_format.specs.declared.fault.ReplyFault.TheVariants.{Memory}
use Rattle.reply_format.specs.declared.reply.Reply.{Reply as ReplyEnum}
use Rattle.reply_format.specs.declared.reply.Reply.TheVariants as variants
use Rattle.solve_jobs.specs.Reading.{are_bytes, low_bytes, read_where, reading, outcome_in, is_right_one, is_good}
use Rattle.solve_jobs.specs.Replies.{IsRightReply, reply_with}
use Rattle.solve_jobs.proofs.Bytes.{spelled_low}

pub are_low : (bytes : List ℕ) → All (λ byte. byte < 256) bytes → are_bytes bytes ≡ true
are_low [] low = refl
are_low (byte ∷ bytes) low =
    both_true (lt-ltb byte 256 (All-head (λ byte. byte < 256) byte bytes low))
    (are_low bytes (All-tail (λ byte. byte < 256) byte bytes low))

reads_where : (bytes : List ℕ) (are : Bool) (is : are_bytes bytes ≡ are) → All (λ byte. byte < 256) bytes
    → ReadsReply (ExpectSolve 0) bytes (read_where bytes are is)
reads_where bytes true is low = (always_read (ExpectSolve 0) bytes tt (low_bytes bytes is)).1
reads_where bytes false is low = absurd (true≢false (sym (are_low bytes low) ∙ is))

-- bytes are read as what their reading is, and as nothing else
pub reads_reading : (bytes : List ℕ) → All (λ byte. byte < 256) bytes
    → ReadsReply (ExpectSolve 0) bytes (reading bytes)
unfolding reading
reads_reading bytes low = reads_where bytes (are_bytes bytes) refl low

pub reading_is : (bytes : List ℕ) (read : Result Reply ReplyFault) → All (λ byte. byte < 256) bytes
    → ReadsReply (ExpectSolve 0) bytes read → reading bytes ≡ read
reading_is bytes read low reads = one_read (ExpectSolve 0) bytes (reading bytes) read (reads_reading bytes low) reads

never : (read : Result ReplyEnum ReplyFault) (reply : ReplyEnum) (fault : ReplyFault) → read ≡ Ok reply
    → read ≡ Err fault → ⊥
never read reply fault is other = cc

same_fault : (read : Result ReplyEnum ReplyFault) (a b : ReplyFault) → read ≡ Err a → read ≡ Err b → a ≡ b
same_fault read a b is other = cc

-- what is read of a reply that was read
pub outcome_read : (bytes : List ℕ) (read : Result Reply ReplyFault) → All (λ byte. byte < 256) bytes
    → ReadsReply (ExpectSolve 0) bytes read → outcome_in read ≡ outcome_in (reading bytes)
outcome_read bytes read low reads = ap outcome_in (sym (reading_is bytes read low reads))

-- a reply to job 0 is known by its outcome
reply_again : (reply : SolveReply) → reply.number ≡ 0 → Solve reply ≡ reply_with reply.outcome
reply_again reply is = ap (λ (n : ℕ). Solve (record { number = n; outcome = reply.outcome })) is

pub spells_outcome : (bytes : List ℕ) (reply : SolveReply) → ReadsReply (ExpectSolve 0) bytes (Ok (Solve reply))
    → SpellsReply (reply_with reply.outcome) bytes
spells_outcome bytes reply reads = subst (λ (r : Reply). SpellsReply r bytes) (reply_again reply reads.0) reads.1

-- a reply that was read has the outcome that is read
pub solve_read : (bytes : List ℕ) (read : Result ReplyEnum ReplyFault) (job : ℕ) (outcome : Outcome)
    → read ≡ Ok (variants.Solve job outcome) → All (λ byte. byte < 256) bytes
    → (read ≡ Err Memory) ⊎ ReadsReply (ExpectSolve 0) bytes (read_as read)
    → (Some outcome ≡ outcome_in (reading bytes)) × SpellsReply (reply_with outcome) bytes
solve_read bytes read job outcome is low (inl memory) =
    absurd (never read (variants.Solve job outcome) Memory is memory)
solve_read bytes read job outcome is low (inr reads) =
    let reply : SolveReply = record { number = job; outcome = outcome } in
    let here = subst (λ (r : Result ReplyEnum ReplyFault). ReadsReply (ExpectSolve 0) bytes (read_as r)) is reads in
    (outcome_read bytes (Ok (Solve reply)) low here, spells_outcome bytes reply here)

-- where there is a breach, no outcome is read
pub fault_read : (bytes : List ℕ) (read : Result ReplyEnum ReplyFault) (fault : ReplyFault) → read ≡ Err fault
    → (fault ≡ Memory → ⊥) → All (λ byte. byte < 256) bytes
    → (read ≡ Err Memory) ⊎ ReadsReply (ExpectSolve 0) bytes (read_as read) → None ≡ outcome_in (reading bytes)
fault_read bytes read fault is apart low (inl memory) = absurd (apart (same_fault read fault Memory is memory))
fault_read bytes read fault is apart low (inr reads) =
    outcome_read bytes (Err fault) low
    (subst (λ (r : Result ReplyEnum ReplyFault). ReadsReply (ExpectSolve 0) bytes (read_as r)) is reads)

right_says : (problem : Problem) (nodes : ℕ) (bytes : List ℕ) (read : Result Reply ReplyFault)
    → ReadsReply (ExpectSolve 0) bytes read → is_right_one problem nodes (outcome_in read) ≡ true
    → IsRightReply problem nodes bytes
right_says problem nodes bytes (Ok (Replay reply)) reads is = absurd reads.0
right_says problem nodes bytes (Ok (Solve reply)) reads is = record {
  outcome = reply.outcome;
  spelled = spells_outcome bytes reply reads;
  right = is;
}
right_says problem nodes bytes (Err fault) reads is = absurd (true≢false (sym is))

right_where : (problem : Problem) (nodes : ℕ) (bytes : List ℕ) (are : Bool) (same : are_bytes bytes ≡ are)
    → is_right_one problem nodes (outcome_in (read_where bytes are same)) ≡ true → IsRightReply problem nodes bytes
right_where problem nodes bytes true same is =
    let read = always_read (ExpectSolve 0) bytes tt (low_bytes bytes same) in
    right_says problem nodes bytes read.0 read.1 is
right_where problem nodes bytes false same is = absurd (true≢false (sym is))

right_reading : (problem : Problem) (nodes : ℕ) (bytes : List ℕ)
    → is_right_one problem nodes (outcome_in (reading bytes)) ≡ true → IsRightReply problem nodes bytes
unfolding reading
right_reading problem nodes bytes is = right_where problem nodes bytes (are_bytes bytes) refl is

good_reply : (problem : Problem) (nodes : ℕ) (bytes : List ℕ) → IsRightReply problem nodes bytes
    → is_right_one problem nodes (outcome_in (reading bytes)) ≡ true
good_reply problem nodes bytes reply =
    let read = reading_is bytes (Ok (reply_with reply.outcome)) (spelled_low reply.outcome bytes reply.spelled)
    (refl, reply.spelled) in
    ap (λ (r : Result Reply ReplyFault). is_right_one problem nodes (outcome_in r)) read ∙ reply.right

-- good replies are those to job 0 with a right outcome
pub judges : (problem : Problem) (nodes job : ℕ) (bytes : List ℕ)
    → (is_good problem nodes job bytes ≡ true) ↔ ((job ≡ 0) × IsRightReply problem nodes bytes)
judges problem nodes job bytes = (
  λ is. let parts = and_parts (job == 0) (is_right_one problem nodes (outcome_in (reading bytes))) is in
      (eqb-true job 0 parts.0, right_reading problem nodes bytes parts.1),
  λ reply. both_true (eq-eqb job 0 reply.0) (good_reply problem nodes bytes reply.1),
)
