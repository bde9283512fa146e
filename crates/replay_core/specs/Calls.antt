-- The calls that change a book, and what a list of them says by itself. A list has the newest call first, so the calls
-- before one are those behind it in the list.
use Rattle.std.specs.Prelude.{◌≡◌, ℕ, ◌+◌, ◌^◌, ◌<◌, ◌≤◌, ◌==◌, ◌||◌, Bool, true, false, List, [], ◌∷◌, ◌++◌, Option, None, Some, IsSome, if◌then◌else◌, length}
use Rattle.replay_core.specs.Attempts.{attempt, job_of, without}
use Rattle.replay_core.specs.Book.{Book, new_book, is_done, bad_of, no_bad, more, without_both, rival_of, after_started, after_start_failed, after_feed_failed, after_died, after_reply, after_stopped}
use Rattle.replay_core.specs.Kept.{IsBook}
use Rattle.replay_core.specs.Next.{next_of}
use Rattle.replay_core.specs.declared.attempt.Attempt.{Attempt}
use Rattle.replay_core.specs.declared.bad.Bad.{Bad}
use Rattle.replay_core.specs.declared.bad.Kind.{Kind}
use Rattle.replay_core.specs.declared.bad.Kind.TheVariants as kinds
use Rattle.replay_core.specs.declared.want.Want.TheVariants as wants

-- a call that changes a book
pub data Call : Type 0 where
  Started : (job : ℕ) → Call
  StartFailed : (job : ℕ) → Call
  FeedFailed : (ticket : ℕ) → Call
  Died : (ticket : ℕ) → Call
  Reply : (ticket : ℕ) (good : Bool) → Call
  Stopped : (ticket : ℕ) → Call

-- when a call may come
abbrev pub IsLawful : Book → Call → Type 0
IsLawful b (Started job) = (next_of b ≡ wants.Start job) × (b.is_stopping ≡ false)
IsLawful b (StartFailed job) = (next_of b ≡ wants.Start job) × (b.is_stopping ≡ false)
IsLawful b (FeedFailed t) = IsSome (job_of b.outs t)
IsLawful b (Died t) = b.stale < 4096
IsLawful b (Reply t good) = b.stale < 4096
IsLawful b (Stopped t) = IsSome (job_of b.outs t)

-- what a call makes of a book
abbrev pub after_call : Book → Call → Book
after_call b (Started job) = after_started b job
after_call b (StartFailed job) = after_start_failed b job
after_call b (FeedFailed t) = after_feed_failed b t (job_of b.outs t)
after_call b (Died t) = after_died b t (job_of b.outs t)
after_call b (Reply t good) = after_reply b t good (job_of b.outs t)
after_call b (Stopped t) = after_stopped b t

-- what a list of calls makes of a book, and that each may come after those before it
unfoldable pub after : Book → List Call → Book
after start [] = start
after start (call ∷ before) = after_call (after start before) call

abbrev pub AreLawful : Book → List Call → Type 0
AreLawful start [] = Unit {0}
AreLawful start (call ∷ before) = IsLawful (after start before) call × AreLawful start before

-- how many tickets a list of calls drew
abbrev pub is_draw : Call → Bool
is_draw (Started job) = true
is_draw (StartFailed job) = true
is_draw (FeedFailed t) = false
is_draw (Died t) = false
is_draw (Reply t good) = false
is_draw (Stopped t) = false

unfoldable pub drawn_in : List Call → ℕ
drawn_in [] = 0
drawn_in (call ∷ before) = (if is_draw call then 1 else 0) + drawn_in before

-- the tickets without that of a reply, and without the rival where the reply is its job's first good one
abbrev pub outs_after_reply : List Attempt → ℕ → Bool → Option ℕ → List Attempt
outs_after_reply outs t good None = outs
outs_after_reply outs t true (Some job) = without_both t (rival_of outs t job) outs
outs_after_reply outs t false (Some job) = without t outs

-- the tickets that are out after one call more; the next ticket is a number
abbrev pub outs_after : ℕ → List Attempt → Call → List Attempt
outs_after next outs (Started job) = outs ++ attempt next job ∷ []
outs_after next outs (StartFailed job) = outs
outs_after next outs (FeedFailed t) = without t outs
outs_after next outs (Died t) = without t outs
outs_after next outs (Reply t good) = outs_after_reply outs t good (job_of outs t)
outs_after next outs (Stopped t) = without t outs

-- the tickets that a list of calls left out, where the first ticket is this
unfoldable pub outs_in : ℕ → List Call → List Attempt
outs_in first [] = []
outs_in first (call ∷ before) = outs_after (first + drawn_in before) (outs_in first before) call

-- whether the job is this one
abbrev pub is_job : Option ℕ → ℕ → Bool
is_job None job = false
is_job (Some other) job = other == job

-- one bad attempt more, if it is one
abbrev pub more_if : Bool → Kind → Bad → Bad
more_if true kind bad = more kind bad
more_if false kind bad = bad

-- the bad attempts of a job after one call more: a failed start for it; a failed feed, a death or a reply that isn't
-- good of a ticket of the job that is out
abbrev pub bad_after : List Attempt → Call → ℕ → Bad → Bad
bad_after outs (Started other) job bad = bad
bad_after outs (StartFailed other) job bad = more_if (other == job) kinds.Start bad
bad_after outs (FeedFailed t) job bad = more_if (is_job (job_of outs t) job) kinds.Feed bad
bad_after outs (Died t) job bad = more_if (is_job (job_of outs t) job) kinds.Died bad
bad_after outs (Reply t true) job bad = bad
bad_after outs (Reply t false) job bad = more_if (is_job (job_of outs t) job) kinds.Reply bad
bad_after outs (Stopped t) job bad = bad

unfoldable pub bad_in : ℕ → List Call → ℕ → Bad
bad_in first [] job = no_bad
bad_in first (call ∷ before) job = bad_after (outs_in first before) call job (bad_in first before job)

-- whether the call is a good reply of a ticket of the job that is out
abbrev pub is_first : List Attempt → Call → ℕ → Bool
is_first outs (Reply t true) job = is_job (job_of outs t) job
is_first outs (Reply t false) job = false
is_first outs (Started other) job = false
is_first outs (StartFailed other) job = false
is_first outs (FeedFailed t) job = false
is_first outs (Died t) job = false
is_first outs (Stopped t) job = false

-- how many such replies of a job there are
unfoldable pub firsts_in : ℕ → List Call → ℕ → ℕ
firsts_in first [] job = 0
firsts_in first (call ∷ before) job =
    (if is_first (outs_in first before) call job then 1 else 0) + firsts_in first before job

-- whether the call is an event of a ticket that is not out
abbrev pub is_none : Option ℕ → Bool
is_none None = true
is_none (Some job) = false

abbrev pub is_stale : List Attempt → Call → Bool
is_stale outs (Died t) = is_none (job_of outs t)
is_stale outs (Reply t good) = is_none (job_of outs t)
is_stale outs (Started job) = false
is_stale outs (StartFailed job) = false
is_stale outs (FeedFailed t) = false
is_stale outs (Stopped t) = false

-- how many such events there are
unfoldable pub stale_in : ℕ → List Call → ℕ
stale_in first [] = 0
stale_in first (call ∷ before) = (if is_stale (outs_in first before) call then 1 else 0) + stale_in first before

-- whether a ticket was stopped
abbrev pub is_stop : Call → Bool
is_stop (Stopped t) = true
is_stop (Started job) = false
is_stop (StartFailed job) = false
is_stop (FeedFailed t) = false
is_stop (Died t) = false
is_stop (Reply t good) = false

unfoldable pub has_stopped : List Call → Bool
has_stopped [] = false
has_stopped (call ∷ before) = is_stop call || has_stopped before

-- The book has what the list of calls says by itself: all that its answers are made of. A job is done where exactly one
-- of the calls is its first good reply, and is not done where none is.
pub record Agrees (first jobs window restarts : ℕ) (calls : List Call) (b : Book) : Type 0 where
  pub first_is : b.first ≡ first
  pub window_is : b.window ≡ window
  pub restarts_is : b.restarts ≡ restarts
  pub jobs_is : length b.accounts ≡ jobs
  pub drawn : b.drawn ≡ drawn_in calls
  pub outs : b.outs ≡ outs_in first calls
  pub bads : (job : ℕ) → bad_of b job ≡ bad_in first calls job
  pub firsts : (job : ℕ) → firsts_in first calls job ≡ (if is_done b job then 1 else 0)
  pub stale : b.stale ≡ stale_in first calls
  pub stopping : b.is_stopping ≡ has_stopped calls
  pub is_book : IsBook b

-- a book's numbers are within the limits
pub record AreLimits (first jobs window restarts : ℕ) : Type 0 where
  pub first_small : first < 2 ^ 31
  pub jobs_some : 1 ≤ jobs
  pub jobs_few : jobs ≤ 256
  pub window_some : 1 ≤ window
  pub window_few : window ≤ 32
  pub restarts_few : restarts ≤ 16

-- every list of lawful calls
abbrev pub LawOfCalls : Type 0
LawOfCalls = (first jobs window restarts : ℕ) → AreLimits first jobs window restarts → (calls : List Call)
    → AreLawful (new_book first jobs window restarts) calls
    → Agrees first jobs window restarts calls (after (new_book first jobs window restarts) calls)
