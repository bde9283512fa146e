-- What is to be done next.
use Rattle.std.specs.Prelude.{◌≡◌, ◌≢◌, ◌⊎◌, ℕ, ◌+◌, ◌*◌, ◌-◌, ◌<◌, ◌≤◌, min, nat_lt, nat_le, not, Bool, true, List, [], Option, None, Some, if◌then◌else◌, length, count_by}
use Rattle.replay_core.specs.declared.account.Account.{Account}
use Rattle.replay_core.specs.Below.{all_below, first_below}
use Rattle.replay_core.specs.Attempts.{is_out, wanted}
use Rattle.replay_core.specs.Book.{Book, account_at, is_done, bad_of, total}
use Rattle.replay_core.specs.declared.want.Want.{Want}
use Rattle.replay_core.specs.declared.want.Want.TheVariants as wants

-- whether every job is done
abbrev pub are_all_done : Book → Bool
are_all_done b = all_below (is_done b) (length b.accounts)

-- the least job with more bad attempts than restarts
abbrev pub first_spent : Book → Option ℕ
first_spent b = first_below (λ job. nat_lt b.restarts (total (bad_of b job))) (length b.accounts)

-- the job of the next start, where one is wanted and the window has room
abbrev pub start_or_wait : Option ℕ → Want
start_or_wait (Some job) = wants.Start job
start_or_wait None = wants.Wait

abbrev pub unless_spent : Option ℕ → Want → Want
unless_spent (Some job) other = wants.Spent job
unless_spent None other = other

unfoldable pub next_of : Book → Want
next_of b =
    if are_all_done b then wants.Finished
    else unless_spent (first_spent b)
    (if nat_le 4096 b.stale then wants.Stale
    else if nat_lt (length b.outs) b.window then start_or_wait (wanted (length b.accounts) (is_done b) b.outs)
    else wants.Wait)

-- how many jobs aren't done
abbrev pub open_in : List Account → ℕ
open_in accounts = count_by (λ a. not a.done) accounts

-- how many bad attempts a job has in all
abbrev pub total_at : List Account → ℕ → ℕ
total_at accounts job = total (account_at accounts job).bad

-- no job has more bad attempts than restarts
abbrev pub AreFew : ℕ → List Account → Type 0
AreFew restarts accounts = (job : ℕ) → job < length accounts → total_at accounts job ≤ restarts

-- no job has more bad attempts than restarts, and fewer than 4,096 events were stale
pub record NoneSpent (restarts stale : ℕ) (accounts : List Account) : Type 0 where
  pub few : AreFew restarts accounts
  pub fresh : stale < 4096

-- one job has one bad attempt more than restarts, and no other job has more than restarts
pub record OneSpent (restarts stale : ℕ) (accounts : List Account) (job : ℕ) : Type 0 where
  pub known : job < length accounts
  pub one : total_at accounts job ≡ restarts + 1
  pub others : (j : ℕ) → j < length accounts → j ≢ job → total_at accounts j ≤ restarts
  pub fresh : stale < 4096
  pub some_open : 0 < open_in accounts

-- 4,096 events were stale, and no job has more bad attempts than restarts
pub record ManyStale (restarts stale : ℕ) (accounts : List Account) : Type 0 where
  pub few : AreFew restarts accounts
  pub many : stale ≡ 4096
  pub some_open : 0 < open_in accounts

-- at most one of the limits is passed, and by one
abbrev pub IsNear : ℕ → ℕ → List Account → Type 0
IsNear restarts stale accounts =
    NoneSpent restarts stale accounts
    ⊎ (((job : ℕ) × OneSpent restarts stale accounts job) ⊎ ManyStale restarts stale accounts)

-- a start is wanted for the job
pub record MayStart (b : Book) (job : ℕ) : Type 0 where
  pub known : job < length b.accounts
  pub is : wanted (length b.accounts) (is_done b) b.outs ≡ Some job
  pub room : length b.outs < b.window
  pub unspent : NoneSpent b.restarts b.stale b.accounts
  pub some_open : 0 < open_in b.accounts

-- an event is to be waited for: as many tickets are out as the window and two for each open job allow, and at least one
pub record MustWait (b : Book) : Type 0 where
  pub full : length b.outs ≡ min b.window (2 * open_in b.accounts)
  pub some : (t : ℕ) × (is_out b.outs t ≡ true)
  pub unspent : NoneSpent b.restarts b.stale b.accounts
  pub some_open : 0 < open_in b.accounts

-- every job is done, and no ticket is out
pub record AllDone (b : Book) : Type 0 where
  pub all : (job : ℕ) → job < length b.accounts → is_done b job ≡ true
  pub none_out : b.outs ≡ []
  pub none_open : open_in b.accounts ≡ 0

-- the job has more bad attempts than restarts
pub record HasSpent (b : Book) (job : ℕ) : Type 0 where
  pub known : job < length b.accounts
  pub over : b.restarts < total_at b.accounts job
  pub some_open : 0 < open_in b.accounts

-- what is known where this is to be done next
abbrev pub IsNext : Book → Want → Type 0
IsNext b (wants.Start job) = MayStart b job
IsNext b wants.Wait = MustWait b
IsNext b wants.Finished = AllDone b
IsNext b (wants.Spent job) = HasSpent b job
IsNext b wants.Stale = ManyStale b.restarts b.stale b.accounts

-- how many more turns there can be: each draws a ticket, ends one or is stale
abbrev pub turns_left : Book → ℕ
turns_left b = 2 * (length b.accounts * (b.restarts + 2) - b.drawn) + length b.outs + (4096 - b.stale)

-- a turn was made
pub record Turned (b after : Book) : Type 0 where
  pub fewer : turns_left after < turns_left b
  pub near : IsNear after.restarts after.stale after.accounts
