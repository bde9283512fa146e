-- What a log, the newest entry first, says of tickets and jobs. The log is the part that one call appended,
-- at whose start no ticket was out.
use Rattle.std.specs.Prelude.{ℕ, ◌+◌, ◌==◌, ◌&&◌, not, Bool, true, false, List, [], ◌∷◌, ◌++◌, Option, None, Some, is_some, is_none, if◌then◌else◌, unwrap_or, replicate, slice_set, slice_index_or, flat_map, IsTrue}
use Rattle.crew.specs.Log.{Entry, job_bytes}
use Rattle.crew.specs.Log.Entry.{Started, StartFailed, Fed, FeedFailed, Sealed, Reply, Died, Stopped}
use Rattle.replay_core.specs.Attempts.{attempt, without, job_of, is_out, wanted}
use Rattle.replay_core.specs.Book.{no_bad, more}
use Rattle.replay_core.specs.declared.attempt.Attempt.{Attempt}
use Rattle.replay_core.specs.declared.bad.Bad.{Bad}
use Rattle.replay_core.specs.declared.bad.Kind.TheVariants as kinds
use Rattle.replay_supervisor.specs.Jobs.{Places, Work}

-- the tickets that are out, each with its job, and the accepted reply of each job
pub record Reading : Type 0 where
  pub outs : List Attempt
  pub replies : Places

-- the accepted reply of a job
abbrev pub accepted : Reading → ℕ → Option (List ℕ)
accepted r job = slice_index_or r.replies job None

-- the job of a ticket that is started after this, if any is wanted: the least without an accepted reply and with no
-- ticket out; where there is none, the least without an accepted reply and with exactly one ticket out
abbrev pub wanted_after : Work → Reading → Option ℕ
wanted_after work r = wanted work.count (λ job. is_some (accepted r job)) r.outs

abbrev pub job_started : Work → Reading → ℕ
job_started work r = unwrap_or (wanted_after work r) 0

-- a reply of a ticket, by its job if it is out: it is accepted if it is good and the first one that is
abbrev pub with_reply : Work → Places → List ℕ → Option ℕ → Places
with_reply work replies bytes None = replies
with_reply work replies bytes (Some job) =
    if work.is_good job bytes && is_none (slice_index_or replies job None)
    then slice_set replies job (Some bytes)
    else replies

-- one entry more
abbrev pub read_entry : Work → Reading → Entry → Reading
read_entry work r (Started t) = record { outs = r.outs ++ attempt t (job_started work r) ∷ []; replies = r.replies }
read_entry work r (StartFailed t) = r
read_entry work r (Fed t piece) = r
read_entry work r (FeedFailed t) = record { outs = without t r.outs; replies = r.replies }
read_entry work r (Sealed t) = r
read_entry work r (Reply t bytes) = record {
  outs = without t r.outs;
  replies = with_reply work r.replies bytes (job_of r.outs t);
}
read_entry work r (Died t) = record { outs = without t r.outs; replies = r.replies }
read_entry work r (Stopped t) = record { outs = without t r.outs; replies = r.replies }

-- what a log says
unfoldable pub read : Work → List Entry → Reading
read work [] = record { outs = []; replies = replicate work.count None }
read work (entry ∷ before) = read_entry work (read work before) entry

abbrev pub is_job : Option ℕ → ℕ → Bool
is_job None job = false
is_job (Some other) job = other == job

-- whether the entry is a bad attempt of the job, and of which kind
abbrev pub count_entry : Work → Reading → Entry → ℕ → Bad → Bad
count_entry work r (StartFailed t) job bad = if job_started work r == job then more kinds.Start bad else bad
count_entry work r (FeedFailed t) job bad = if is_job (job_of r.outs t) job then more kinds.Feed bad else bad
count_entry work r (Died t) job bad = if is_job (job_of r.outs t) job then more kinds.Died bad else bad
count_entry work r (Reply t bytes) job bad =
    if is_job (job_of r.outs t) job && not (work.is_good job bytes) then more kinds.Reply bad else bad
count_entry work r (Started t) job bad = bad
count_entry work r (Fed t piece) job bad = bad
count_entry work r (Sealed t) job bad = bad
count_entry work r (Stopped t) job bad = bad

-- the bad attempts of a job
unfoldable pub bad_in : Work → List Entry → ℕ → Bad
bad_in work [] job = no_bad
bad_in work (entry ∷ before) job = count_entry work (read work before) entry job (bad_in work before job)

-- whether the entry is an event of a ticket that is not out
abbrev pub is_stale : Reading → Entry → Bool
is_stale r (Reply t bytes) = not (is_out r.outs t)
is_stale r (Died t) = not (is_out r.outs t)
is_stale r (Started t) = false
is_stale r (StartFailed t) = false
is_stale r (Fed t piece) = false
is_stale r (FeedFailed t) = false
is_stale r (Sealed t) = false
is_stale r (Stopped t) = false

-- how many events are stale
unfoldable pub stale_in : Work → List Entry → ℕ
stale_in work [] = 0
stale_in work (entry ∷ before) = (if is_stale (read work before) entry then 1 else 0) + stale_in work before

abbrev pub is_event : Entry → Bool
is_event (Reply t bytes) = true
is_event (Died t) = true
is_event (Started t) = false
is_event (StartFailed t) = false
is_event (Fed t piece) = false
is_event (FeedFailed t) = false
is_event (Sealed t) = false
is_event (Stopped t) = false

-- how many events there are
unfoldable pub events_in : List Entry → ℕ
events_in [] = 0
events_in (entry ∷ before) = (if is_event entry then 1 else 0) + events_in before

abbrev pub is_drawing : Entry → Bool
is_drawing (Started t) = true
is_drawing (StartFailed t) = true
is_drawing (Fed t piece) = false
is_drawing (FeedFailed t) = false
is_drawing (Sealed t) = false
is_drawing (Reply t bytes) = false
is_drawing (Died t) = false
is_drawing (Stopped t) = false

-- how many tickets were drawn
unfoldable pub drawn_in : List Entry → ℕ
drawn_in [] = 0
drawn_in (entry ∷ before) = (if is_drawing entry then 1 else 0) + drawn_in before

-- whether a reply of a ticket, by its job if it is out, is the first good one of its job
abbrev pub is_first_good : Work → Reading → List ℕ → Option ℕ → Bool
is_first_good work r bytes None = false
is_first_good work r bytes (Some job) = work.is_good job bytes && is_none (accepted r job)

-- each accepted reply answers what was fed to its ticket
abbrev pub AreHonest : Work → (List ℕ → List ℕ → Type 0) → List Entry → Type 0
AreHonest work answers [] = Unit {0}
AreHonest work answers (Reply t bytes ∷ before) =
    (IsTrue (is_first_good work (read work before) bytes (job_of (read work before).outs t))
    → answers (job_bytes before t) bytes)
    × AreHonest work answers before
AreHonest work answers (Started t ∷ before) = AreHonest work answers before
AreHonest work answers (StartFailed t ∷ before) = AreHonest work answers before
AreHonest work answers (Fed t piece ∷ before) = AreHonest work answers before
AreHonest work answers (FeedFailed t ∷ before) = AreHonest work answers before
AreHonest work answers (Sealed t ∷ before) = AreHonest work answers before
AreHonest work answers (Died t ∷ before) = AreHonest work answers before
AreHonest work answers (Stopped t ∷ before) = AreHonest work answers before
