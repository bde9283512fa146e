-- The outcome that was taken.
use Rattle.std.proofs.Common.{◌≡◌, ℕ, true, List, Option, None, Some, Result, Ok, refl, sym, ap, subst, IsTrue}
use Rattle.bound_certificate.specs.Outcome.{is_right}
use Rattle.bound_certificate.specs.Problem.{Problem}
use Rattle.bound_certificate.specs.declared.outcome.Outcome.{Outcome}
use Rattle.reply_format.proofs.OneRead.{one_read}
use Rattle.reply_format.specs.Reply.{ExpectSolve, Reply, SpellsReply}
use Rattle.reply_format.specs.declared.fault.ReplyFault.{ReplyFault}
use Rattle.replay_supervisor.specs.Jobs.{Places}
use Rattle.solve_jobs.specs.Reading.{outcome_in, is_good}
use Rattle.solve_jobs.specs.Replies.{IsReplyWith, IsRightReply, reply_with}
use Rattle.solve_jobs.specs.Search.{Holds}
use Rattle.solve_jobs.proofs.Reading.{judges}

or_else : Outcome → Option Outcome → Outcome
or_else other None = other
or_else other (Some outcome) = outcome

-- bytes spell one outcome
one_outcome : (bytes : List ℕ) (outcome other : Outcome) → SpellsReply (reply_with outcome) bytes
    → SpellsReply (reply_with other) bytes → outcome ≡ other
unfolding or_else
one_outcome bytes outcome other first second =
    ap (λ (r : Result Reply ReplyFault). or_else outcome (outcome_in r))
    (one_read (ExpectSolve 0) bytes (Ok (reply_with outcome)) (Ok (reply_with other)) (refl, first) (refl, second))

-- a reply with a right outcome is right wherever the same bytes are good
reply_again : (p q : Problem) (m n : ℕ) (outcome : Outcome) (bytes : List ℕ)
    → ((job : ℕ) (bytes : List ℕ) → (is_good p m job bytes ≡ true → (job ≡ 0) × IsRightReply q n bytes))
    → IsReplyWith p m outcome bytes → IsReplyWith q n outcome bytes
reply_again p q m n outcome bytes judged reply =
    let here : IsRightReply p m bytes = record { outcome = outcome; spelled = reply.spelled; right = reply.right } in
    let there = (judged 0 bytes ((judges p m 0 bytes).1 (refl, here))).1 in
    record {
      spelled = reply.spelled;
      right = subst (λ (o : Outcome). IsTrue (is_right q n o))
          (sym (one_outcome bytes outcome there.outcome reply.spelled there.spelled)) there.right;
    }

pub holds_again : (p q : Problem) (m n : ℕ) (found : Option Outcome) (places : Places)
    → ((job : ℕ) (bytes : List ℕ) → (is_good p m job bytes ≡ true → (job ≡ 0) × IsRightReply q n bytes))
    → Holds p m found places → Holds q n found places
holds_again p q m n None places judged holds = holds
holds_again p q m n (Some outcome) places judged holds =
    (holds.0, holds.1, reply_again p q m n outcome holds.0 judged holds.2)
