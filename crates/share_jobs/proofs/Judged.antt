-- Which bytes are a reply to a replay job.
use Rattle.std.proofs.Common.{◌≡◌, ◌<◌, ◌⊎◌, ◌&&◌, ℕ, Bool, true, false, List, All, is_some, Result, Ok, Err, IsTrue, refl, sym, ◌∙◌, ap, subst, inl, inr}
use Rattle.std.proofs.lemmas.Bool.{and_parts, true≢false}
use Rattle.std.specs.Cmp.Derive.{both_true}
use Rattle.reply_format.proofs.OneRead.{always_read, one_read}
use Rattle.reply_format.specs.Read.{ReadsReply, read_as}
use Rattle.reply_format.specs.Reply.{ExpectReplay, ReplayHead, Reply, Replay, Solve, reply_of}
use Rattle.reply_format.specs.declared.fault.ReplyFault.{ReplyFault}
use Rattle.reply_format.specs.declared.fault.ReplyFault.TheVariants.{Memory}
use Rattle.reply_format.specs.declared.reply.Reply.{Reply as ReplyEnum}
use Rattle.share_jobs.specs.Reading.{IsReplyOf, IsReplyTo, is_good, is_within, read_where, reading, replay_in}
use Rattle.share_jobs.proofs.Bytes.{reply_low}
use Rattle.solve_jobs.proofs.Reading.{are_low}
use Rattle.solve_jobs.specs.Reading.{are_bytes, low_bytes}

module _ (head : ReplayHead) (bytes : List ℕ) where
  -- bytes that fit are read as what their reading is, and as nothing else
  reads_where : (fits : Bool) (is : (is_within head.setting && are_bytes bytes) ≡ fits)
      → IsTrue (is_within head.setting) → All (λ byte. byte < 256) bytes
      → ReadsReply (ExpectReplay head) bytes (read_where head bytes fits is)
  reads_where true is within low =
      let parts = and_parts (is_within head.setting) (are_bytes bytes) is in
      (always_read (ExpectReplay head) bytes parts.0 (low_bytes bytes parts.1)).1
  reads_where false is within low = absurd (true≢false (sym (both_true within (are_low bytes low)) ∙ is))

  reads_reading : IsTrue (is_within head.setting) → All (λ byte. byte < 256) bytes
      → ReadsReply (ExpectReplay head) bytes (reading head bytes)
  unfolding reading
  reads_reading within low = reads_where (is_within head.setting && are_bytes bytes) refl within low

  pub reading_is : (read : Result Reply ReplyFault) → IsTrue (is_within head.setting)
      → All (λ byte. byte < 256) bytes → ReadsReply (ExpectReplay head) bytes read → reading head bytes ≡ read
  reading_is read within low reads =
      one_read (ExpectReplay head) bytes (reading head bytes) read (reads_reading within low) reads

  says_reply : (read : Result Reply ReplyFault) → ReadsReply (ExpectReplay head) bytes read
      → is_some (replay_in read) ≡ true → IsReplyTo head bytes
  says_reply (Ok (Replay reply)) reads is = record { reply = reply; head_is = reads.0; spelled = reads.1 }
  says_reply (Ok (Solve reply)) reads is = absurd reads.0
  says_reply (Err fault) reads is = absurd (true≢false (sym is))

  where_reply : (fits : Bool) (same : (is_within head.setting && are_bytes bytes) ≡ fits)
      → is_some (replay_in (read_where head bytes fits same)) ≡ true → IsReplyTo head bytes
  where_reply true same is =
      let parts = and_parts (is_within head.setting) (are_bytes bytes) same in
      let read = always_read (ExpectReplay head) bytes parts.0 (low_bytes bytes parts.1) in
      says_reply read.0 read.1 is
  where_reply false same is = absurd (true≢false (sym is))

  -- good bytes spell a reply
  pub good_says : is_good head bytes ≡ true → IsReplyTo head bytes
  unfolding reading
  good_says is = where_reply (is_within head.setting && are_bytes bytes) refl is

  -- bytes that spell a reply are good
  pub reply_good : IsReplyTo head bytes → is_good head bytes ≡ true
  reply_good to =
      let within = subst (λ (h : ReplayHead). IsTrue (is_within h.setting)) to.head_is to.spelled.within.head.within in
      ap (λ (r : Result Reply ReplyFault). is_some (replay_in r))
      (reading_is (Ok (Replay to.reply)) within (reply_low to.reply bytes to.spelled) (to.head_is, to.spelled))

  ok_read : (reply : Reply) → ReadsReply (ExpectReplay head) bytes (Ok reply) → IsReplyOf head reply bytes
  ok_read (Replay reply) reads = reads
  ok_read (Solve reply) reads = absurd reads.0

  told_by : (reply : Reply) → IsReplyOf head reply bytes → IsReplyTo head bytes
  told_by (Replay reply) of = record { reply = reply; head_is = of.0; spelled = of.1 }
  told_by (Solve reply) of = absurd of

  never : (read : Result ReplyEnum ReplyFault) (reply : ReplyEnum) (fault : ReplyFault) → read ≡ Ok reply
      → read ≡ Err fault → ⊥
  never read reply fault is other = cc

  same_fault : (read : Result ReplyEnum ReplyFault) (a b : ReplyFault) → read ≡ Err a → read ≡ Err b → a ≡ b
  same_fault read a b is other = cc

  -- a reply that was read is one to the job
  pub reply_read : (read : Result ReplyEnum ReplyFault) (found : ReplyEnum) → read ≡ Ok found
      → (read ≡ Err Memory) ⊎ ReadsReply (ExpectReplay head) bytes (read_as read)
      → (true ≡ is_good head bytes) × IsReplyOf head (reply_of found) bytes
  reply_read read found is (inl memory) = absurd (never read found Memory is memory)
  reply_read read found is (inr reads) =
      let of = ok_read (reply_of found)
      (subst (λ (r : Result ReplyEnum ReplyFault). ReadsReply (ExpectReplay head) bytes (read_as r)) is reads) in
      (sym (reply_good (told_by (reply_of found) of)), of)

  -- where there is a breach, bytes are no reply
  pub fault_read : (read : Result ReplyEnum ReplyFault) (fault : ReplyFault) → read ≡ Err fault
      → (fault ≡ Memory → ⊥) → IsTrue (is_within head.setting) → All (λ byte. byte < 256) bytes
      → (read ≡ Err Memory) ⊎ ReadsReply (ExpectReplay head) bytes (read_as read) → false ≡ is_good head bytes
  fault_read read fault is apart within low (inl memory) = absurd (apart (same_fault read fault Memory is memory))
  fault_read read fault is apart within low (inr reads) =
      ap (λ (r : Result Reply ReplyFault). is_some (replay_in r)) (sym (reading_is (Err fault) within low
      (subst (λ (r : Result ReplyEnum ReplyFault). ReadsReply (ExpectReplay head) bytes (read_as r)) is reads)))
