-- Which logs a script allows.
use Rattle.std.specs.Prelude.{◌≡◌, ◌⊎◌, ℕ, ◌+◌, ◌<◌, ◌≤◌, ◌==◌, ◌||◌, not, Bool, true, false, List, [], ◌∷◌, ◌++◌, Option, None, Some, drop, filter, if◌then◌else◌, length, map, slice_get}
use Rattle.std.specs.List.{list_any}
use Rattle.crew.specs.Log.{Entry, job_bytes}
use Rattle.scripted_crew.specs.declared.act.Act.{Act}
use Rattle.scripted_crew.specs.declared.act.Act.TheVariants as acts

-- an act, with its bytes as a list
pub data Deed : Type 0 where
  Answer : (ticket : ℕ) → Deed
  Give : (ticket : ℕ) (bytes : List ℕ) → Deed
  Die : (ticket : ℕ) → Deed

abbrev pub deed_of : Act → Deed
deed_of (acts.Reply ticket) = Deed.Answer ticket
deed_of (acts.Bytes ticket bytes) = Deed.Give ticket bytes.items
deed_of (acts.Die ticket) = Deed.Die ticket

unfoldable pub deeds_of : List Act → List Deed
deeds_of acts = map deed_of acts

abbrev pub ticket_of : Deed → ℕ
ticket_of (Deed.Answer ticket) = ticket
ticket_of (Deed.Give ticket bytes) = ticket
ticket_of (Deed.Die ticket) = ticket

-- whether the ticket is in the list
unfoldable pub is_listed : List ℕ → ℕ → Bool
is_listed tickets ticket = list_any (λ other. other == ticket) tickets

-- the deeds from the first one of a ticket that passes
unfoldable pub from_started : (ℕ → Bool) → List Deed → List Deed
from_started is_started [] = []
from_started is_started (deed ∷ deeds) =
    if is_started (ticket_of deed) then deed ∷ deeds else from_started is_started deeds

-- whether the ticket was started
unfoldable pub is_started : List Entry → ℕ → Bool
is_started [] t = false
is_started (Entry.Started s ∷ before) t = s == t || is_started before t
is_started (Entry.StartFailed s ∷ before) t = is_started before t
is_started (Entry.Fed s piece ∷ before) t = is_started before t
is_started (Entry.FeedFailed s ∷ before) t = is_started before t
is_started (Entry.Sealed s ∷ before) t = is_started before t
is_started (Entry.Reply s bytes ∷ before) t = is_started before t
is_started (Entry.Died s ∷ before) t = is_started before t
is_started (Entry.Stopped s ∷ before) t = is_started before t

-- the deeds that are left after a log: each event takes the first one of a ticket that was started before it
unfoldable pub deeds_left : List Deed → List Entry → List Deed
deeds_left deeds [] = deeds
deeds_left deeds (Entry.Reply t bytes ∷ before) = drop 1 (from_started (is_started before) (deeds_left deeds before))
deeds_left deeds (Entry.Died t ∷ before) = drop 1 (from_started (is_started before) (deeds_left deeds before))
deeds_left deeds (Entry.Started t ∷ before) = deeds_left deeds before
deeds_left deeds (Entry.StartFailed t ∷ before) = deeds_left deeds before
deeds_left deeds (Entry.Fed t piece ∷ before) = deeds_left deeds before
deeds_left deeds (Entry.FeedFailed t ∷ before) = deeds_left deeds before
deeds_left deeds (Entry.Sealed t ∷ before) = deeds_left deeds before
deeds_left deeds (Entry.Stopped t ∷ before) = deeds_left deeds before

-- the deed of the next event, if one is left
abbrev pub next_deed : List Deed → List Entry → Option Deed
next_deed deeds log = slice_get (from_started (is_started log) (deeds_left deeds log)) 0

-- the tickets that are out, in the order of their starts
unfoldable pub outs_in : List Entry → List ℕ
outs_in [] = []
outs_in (Entry.Started t ∷ before) = outs_in before ++ t ∷ []
outs_in (Entry.StartFailed t ∷ before) = outs_in before
outs_in (Entry.Fed t piece ∷ before) = outs_in before
outs_in (Entry.FeedFailed t ∷ before) = outs_in before
outs_in (Entry.Sealed t ∷ before) = outs_in before
outs_in (Entry.Reply t bytes ∷ before) = filter (λ s. not (s == t)) (outs_in before)
outs_in (Entry.Died t ∷ before) = filter (λ s. not (s == t)) (outs_in before)
outs_in (Entry.Stopped t ∷ before) = filter (λ s. not (s == t)) (outs_in before)

-- the tickets whose calls fail, and what the waits give
pub record Script : Type 0 where
  pub starts_fail : List ℕ
  pub feeds_fail : List ℕ
  pub seals_fail : List ℕ
  pub deeds : List Deed

abbrev pub script : List ℕ → List ℕ → List ℕ → List Deed → Script
script starts_fail feeds_fail seals_fail deeds =
    record { starts_fail = starts_fail; feeds_fail = feeds_fail; seals_fail = seals_fail; deeds = deeds }

-- a reply of the ticket: by the next deed, or where none is left the answer of the oldest ticket
abbrev pub IsReply : (List ℕ → List ℕ → Type 0) → Option Deed → List Entry → ℕ → List ℕ → Type 0
IsReply answers None before t bytes = (slice_get (outs_in before) 0 ≡ Some t) × answers (job_bytes before t) bytes
IsReply answers (Some (Deed.Answer x)) before t bytes = (t ≡ x) × answers (job_bytes before t) bytes
IsReply answers (Some (Deed.Give x given)) before t bytes = (t ≡ x) × (bytes ≡ given)
IsReply answers (Some (Deed.Die x)) before t bytes = ⊥

-- a death of the ticket: by the next deed, where what it was fed has no answer, or it is to die
abbrev pub IsDeath : (List ℕ → Type 0) → Option Deed → List Entry → ℕ → Type 0
IsDeath refuses None before t = (slice_get (outs_in before) 0 ≡ Some t) × refuses (job_bytes before t)
IsDeath refuses (Some (Deed.Answer x)) before t = (t ≡ x) × refuses (job_bytes before t)
IsDeath refuses (Some (Deed.Give x given)) before t = ⊥
IsDeath refuses (Some (Deed.Die x)) before t = t ≡ x

-- A start fails exactly where its ticket is listed or 64 tickets are out; a feed and a seal exactly where its ticket is
-- listed; and the events are those of the deeds, in order.
abbrev pub IsScripted : Script → (List ℕ → List ℕ → Type 0) → (List ℕ → Type 0) → List Entry → Type 0
IsScripted s answers refuses [] = Unit {0}
IsScripted s answers refuses (Entry.Started t ∷ before) =
    (is_listed s.starts_fail t ≡ false) × (length (outs_in before) < 64) × IsScripted s answers refuses before
IsScripted s answers refuses (Entry.StartFailed t ∷ before) =
    ((is_listed s.starts_fail t ≡ true) ⊎ (64 ≤ length (outs_in before))) × IsScripted s answers refuses before
IsScripted s answers refuses (Entry.Fed t piece ∷ before) =
    (is_listed s.feeds_fail t ≡ false) × IsScripted s answers refuses before
IsScripted s answers refuses (Entry.FeedFailed t ∷ before) =
    ((is_listed s.feeds_fail t ≡ true) ⊎ (is_listed s.seals_fail t ≡ true)) × IsScripted s answers refuses before
IsScripted s answers refuses (Entry.Sealed t ∷ before) =
    (is_listed s.seals_fail t ≡ false) × IsScripted s answers refuses before
IsScripted s answers refuses (Entry.Reply t bytes ∷ before) =
    IsReply answers (next_deed s.deeds before) before t bytes × IsScripted s answers refuses before
IsScripted s answers refuses (Entry.Died t ∷ before) =
    IsDeath refuses (next_deed s.deeds before) before t × IsScripted s answers refuses before
IsScripted s answers refuses (Entry.Stopped t ∷ before) = IsScripted s answers refuses before

-- how many calls failed and how many tickets died
unfoldable pub failures_in : List Entry → ℕ
failures_in [] = 0
failures_in (Entry.StartFailed t ∷ before) = failures_in before + 1
failures_in (Entry.FeedFailed t ∷ before) = failures_in before + 1
failures_in (Entry.Died t ∷ before) = failures_in before + 1
failures_in (Entry.Started t ∷ before) = failures_in before
failures_in (Entry.Fed t piece ∷ before) = failures_in before
failures_in (Entry.Sealed t ∷ before) = failures_in before
failures_in (Entry.Reply t bytes ∷ before) = failures_in before
failures_in (Entry.Stopped t ∷ before) = failures_in before
