-- What every book is.
use Rattle.std.specs.Prelude.{◌≡◌, ℕ, ◌+◌, ◌*◌, ◌^◌, ◌<◌, ◌≤◌, Bool, true, false, List, [], ◌∷◌, length, sum_by}
use Rattle.replay_core.specs.Attempts.{is_out, tickets_of}
use Rattle.replay_core.specs.Book.{Book, account, total}
use Rattle.replay_core.specs.declared.attempt.Attempt.{Attempt}
use Rattle.replay_core.specs.declared.account.Account.{Account}

-- the tickets are distinct, each below the next one, and each job is one of the jobs
abbrev pub AreAttempts : ℕ → ℕ → List Attempt → Type 0
AreAttempts next jobs [] = Unit {0}
AreAttempts next jobs (a ∷ outs) =
    (a.ticket < next) × (a.job < jobs) × (is_out outs a.ticket ≡ false) × AreAttempts next jobs outs

-- the tickets ascend: they stand in the order of their starts
abbrev pub AreAscending : List Attempt → Type 0
AreAscending [] = Unit {0}
AreAscending (a ∷ outs) = ((t : ℕ) → is_out outs t ≡ true → a.ticket < t) × AreAscending outs

-- what is kept of a job of which so many tickets are out: each ticket that was drawn is out, went bad or did the job,
-- unless one was stopped; at most two are out, and none once the job is done
pub record IsAccount (restarts : ℕ) (is_stopping : Bool) (outs : ℕ) (a : Account) : Type 0 where
  pub few : a.drawn ≤ restarts + 2
  pub most : total a.bad + outs ≤ a.drawn
  pub all : a.done ≡ false → is_stopping ≡ false → a.drawn ≤ total a.bad + outs
  pub two : outs ≤ 2
  pub none : a.done ≡ true → outs ≡ 0

-- the limits on a book, and that what it keeps fits together: as many tickets were drawn as its accounts say, and at
-- most so many
pub record IsBook (b : Book) : Type 0 where
  pub first : b.first < 2 ^ 31
  pub window_some : 1 ≤ b.window
  pub window_few : b.window ≤ 32
  pub restarts : b.restarts ≤ 16
  pub jobs_some : 1 ≤ length b.accounts
  pub jobs_few : length b.accounts ≤ 256
  pub stale : b.stale ≤ 4096
  pub room : length b.outs ≤ b.window
  pub outs : AreAttempts (b.first + b.drawn) (length b.accounts) b.outs
  pub order : AreAscending b.outs
  pub each : (job : ℕ) → job < length b.accounts
      → IsAccount b.restarts b.is_stopping (tickets_of b.outs job) (account b job)
  pub drawn : b.drawn ≡ sum_by (λ a. a.drawn) b.accounts
  pub bound : b.drawn ≤ length b.accounts * (b.restarts + 2)
