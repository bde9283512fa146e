-- In a log of a script whose acts are answers and deaths alone each reply answers what its ticket was fed.
use Rattle.std.proofs.Common.{ℕ, Bool, inl, inr, List, [], ◌∷◌}
use Rattle.std.specs.Prelude.{drop, slice_get}
use Rattle.std.proofs.lemmas.Bool.{cases_Bool}
use Rattle.std.proofs.lemmas.List.Elements.{All-drop, All-head, All-tail}
use Rattle.crew.specs.Log.{Entry, job_bytes}
use Rattle.crew.specs.Log.Entry.{Started, StartFailed, Fed, FeedFailed, Sealed, Reply, Died, Stopped}
use Rattle.scripted_crew.specs.Script.{Deed, deeds_left, from_started, is_started, ticket_of, IsReply, IsScripted, Script}
use Rattle.scripted_logs.specs.Answering.{AnswersAlone, GivesNoBytes, RepliesAnswer}

-- what holds of all deeds holds of those from the first one of a ticket that passes
from_alone : (test : ℕ → Bool) (deeds : List Deed) → AnswersAlone deeds → AnswersAlone (from_started test deeds)
unfolding from_started
from_alone test [] alone = alone
from_alone test (deed ∷ deeds) alone = elim (cases_Bool (test (ticket_of deed))) [
  | inl passes ↦ rw passes alone
  | inr fails ↦ rw fails (from_alone test deeds (All-tail GivesNoBytes deed deeds alone))
]

-- and of those that are left after a log
next_alone : (deeds : List Deed) (before : List Entry) → AnswersAlone (deeds_left deeds before)
    → AnswersAlone (drop 1 (from_started (is_started before) (deeds_left deeds before)))
next_alone deeds before alone =
    All-drop GivesNoBytes 1 (from_started (is_started before) (deeds_left deeds before))
    (from_alone (is_started before) (deeds_left deeds before) alone)

left_alone : (deeds : List Deed) (log : List Entry) → AnswersAlone deeds → AnswersAlone (deeds_left deeds log)
unfolding deeds_left
left_alone deeds [] alone = alone
left_alone deeds (Started t ∷ before) alone = left_alone deeds before alone
left_alone deeds (StartFailed t ∷ before) alone = left_alone deeds before alone
left_alone deeds (Fed t piece ∷ before) alone = left_alone deeds before alone
left_alone deeds (FeedFailed t ∷ before) alone = left_alone deeds before alone
left_alone deeds (Sealed t ∷ before) alone = left_alone deeds before alone
left_alone deeds (Reply t bytes ∷ before) alone = next_alone deeds before (left_alone deeds before alone)
left_alone deeds (Died t ∷ before) alone = next_alone deeds before (left_alone deeds before alone)
left_alone deeds (Stopped t ∷ before) alone = left_alone deeds before alone

-- so a reply by the first of such deeds answers
reply_answers : (answers : List ℕ → List ℕ → Type 0) (deeds : List Deed) (before : List Entry) (t : ℕ) (bytes : List ℕ)
    → AnswersAlone deeds → IsReply answers (slice_get deeds 0) before t bytes → answers (job_bytes before t) bytes
reply_answers answers [] before t bytes alone reply = reply.1
reply_answers answers (Deed.Answer x ∷ deeds) before t bytes alone reply = reply.1
reply_answers answers (Deed.Give x given ∷ deeds) before t bytes alone reply =
    absurd (All-head GivesNoBytes (Deed.Give x given) deeds alone)
reply_answers answers (Deed.Die x ∷ deeds) before t bytes alone reply = absurd reply

module _ (s : Script) (answers : List ℕ → List ℕ → Type 0) (refuses : List ℕ → Type 0) (alone : AnswersAlone s.deeds)
  where
    pub scripted_answers : (log : List Entry) → IsScripted s answers refuses log → RepliesAnswer answers log
    scripted_answers [] scripted = tt
    scripted_answers (Started t ∷ before) scripted = scripted_answers before scripted.2
    scripted_answers (StartFailed t ∷ before) scripted = scripted_answers before scripted.1
    scripted_answers (Fed t piece ∷ before) scripted = scripted_answers before scripted.1
    scripted_answers (FeedFailed t ∷ before) scripted = scripted_answers before scripted.1
    scripted_answers (Sealed t ∷ before) scripted = scripted_answers before scripted.1
    scripted_answers (Reply t bytes ∷ before) scripted = (
      reply_answers answers (from_started (is_started before) (deeds_left s.deeds before)) before t bytes
          (from_alone (is_started before) (deeds_left s.deeds before) (left_alone s.deeds before alone)) scripted.0,
      scripted_answers before scripted.1,
    )
    scripted_answers (Died t ∷ before) scripted = (tt, scripted_answers before scripted.1)
    scripted_answers (Stopped t ∷ before) scripted = scripted_answers before scripted
