-- What clauses see of a book, and what each event makes of it.
use Rattle.std.specs.Prelude.{ℕ, ◌+◌, Bool, true, false, List, [], ◌∷◌, ◌++◌, Option, None, Some, slice_set, slice_index_or, replicate}
use Rattle.replay_core.specs.Attempts.{attempt, without, ticket_of}
use Rattle.replay_core.specs.declared.attempt.Attempt.{Attempt}
use Rattle.replay_core.specs.declared.account.Account.{Account}
use Rattle.replay_core.specs.declared.bad.Bad.{Bad}
use Rattle.replay_core.specs.declared.bad.Kind.{Kind}
use Rattle.replay_core.specs.declared.bad.Kind.TheVariants.{Start, Feed, Died, Reply}
use Rattle.replay_core.specs.declared.take.Take.{Take}
use Rattle.replay_core.specs.declared.take.Take.TheVariants as takes

-- which tickets are out, and what is kept of each job
pub record Book : Type 0 where
  pub first : ℕ  -- the first ticket
  pub window : ℕ  -- how many tickets may be out together
  pub restarts : ℕ  -- how many bad attempts a job may have
  pub drawn : ℕ  -- how many tickets were drawn
  pub stale : ℕ  -- how many events were stale
  pub is_stopping : Bool  -- whether a ticket was stopped
  pub outs : List Attempt  -- the tickets that are out, in the order of their starts
  pub accounts : List Account  -- what is kept of each job

abbrev pub no_bad : Bad
no_bad = record { start = 0; feed = 0; died = 0; reply = 0 }

abbrev pub new_account : Account
new_account = record { done = false; drawn = 0; bad = no_bad }

-- how many bad attempts there are, of all kinds
abbrev pub total : Bad → ℕ
total bad = bad.start + bad.feed + bad.died + bad.reply

-- what is kept of a job
abbrev pub account_at : List Account → ℕ → Account
account_at accounts job = slice_index_or accounts job new_account

abbrev pub account : Book → ℕ → Account
account b job = account_at b.accounts job

abbrev pub is_done : Book → ℕ → Bool
is_done b job = (account b job).done

abbrev pub bad_of : Book → ℕ → Bad
bad_of b job = (account b job).bad

-- the ticket that the next start draws
abbrev pub ticket : Book → ℕ
ticket b = b.first + b.drawn

unfoldable pub new_book : ℕ → ℕ → ℕ → ℕ → Book
new_book first jobs window restarts = record {
  first = first;
  window = window;
  restarts = restarts;
  drawn = 0;
  stale = 0;
  is_stopping = false;
  outs = [];
  accounts = replicate jobs new_account;
}

-- one bad attempt more, by what failed
abbrev pub more : Kind → Bad → Bad
more Start bad = record { start = bad.start + 1; feed = bad.feed; died = bad.died; reply = bad.reply }
more Feed bad = record { start = bad.start; feed = bad.feed + 1; died = bad.died; reply = bad.reply }
more Died bad = record { start = bad.start; feed = bad.feed; died = bad.died + 1; reply = bad.reply }
more Reply bad = record { start = bad.start; feed = bad.feed; died = bad.died; reply = bad.reply + 1 }

-- the account of a job changed
unfoldable pub with_account : List Account → ℕ → (Account → Account) → List Account
with_account accounts job change = slice_set accounts job (change (slice_index_or accounts job new_account))

abbrev pub count_drawn : Account → Account
count_drawn a = record { done = a.done; drawn = a.drawn + 1; bad = a.bad }

abbrev pub count_bad : Kind → Account → Account
count_bad kind a = record { done = a.done; drawn = a.drawn; bad = more kind a.bad }

abbrev pub is_now_done : Account → Account
is_now_done a = record { done = true; drawn = a.drawn; bad = a.bad }

-- a ticket was started for a job
abbrev pub after_started : Book → ℕ → Book
after_started b job = record b {
  drawn = b.drawn + 1;
  outs = b.outs ++ attempt (ticket b) job ∷ [];
  accounts = with_account b.accounts job count_drawn;
}

-- a start failed
abbrev pub after_start_failed : Book → ℕ → Book
after_start_failed b job = record b {
  drawn = b.drawn + 1;
  accounts = with_account b.accounts job (λ a. count_bad Start (count_drawn a));
}

-- an attempt that is out was bad
abbrev pub after_bad : Book → ℕ → ℕ → Kind → Book
after_bad b t job kind = record b {
  outs = without t b.outs;
  accounts = with_account b.accounts job (count_bad kind);
}

-- after a feed or the seal of a ticket failed, by its job
abbrev pub after_feed_failed : Book → ℕ → Option ℕ → Book
after_feed_failed b t None = b
after_feed_failed b t (Some job) = after_bad b t job Feed

-- an event came of a ticket that is not out
abbrev pub after_stale : Book → Book
after_stale b = record b { stale = b.stale + 1 }

-- the tickets that are out but the ticket and its rival, if it has one
abbrev pub without_both : ℕ → Option ℕ → List Attempt → List Attempt
without_both t None outs = without t outs
without_both t (Some rival) outs = without rival (without t outs)

-- the other ticket of the job
abbrev pub rival_of : List Attempt → ℕ → ℕ → Option ℕ
rival_of outs t job = ticket_of (without t outs) job

-- a job is done by a ticket
abbrev pub after_first : Book → ℕ → ℕ → Book
after_first b t job = record b {
  outs = without_both t (rival_of b.outs t job) b.outs;
  accounts = with_account b.accounts job is_now_done;
}

-- a ticket was stopped
abbrev pub after_stopped : Book → ℕ → Book
after_stopped b t = record b { outs = without t b.outs; is_stopping = true }

-- after a ticket died, by its job if it was out; else the event was stale
abbrev pub after_died : Book → ℕ → Option ℕ → Book
after_died b t None = after_stale b
after_died b t (Some job) = after_bad b t job Died

-- after a reply of a ticket, by its job if it was out, and what is answered to it
abbrev pub after_reply : Book → ℕ → Bool → Option ℕ → Book
after_reply b t good None = after_stale b
after_reply b t true (Some job) = after_first b t job
after_reply b t false (Some job) = after_bad b t job Reply

abbrev pub take_of : Book → ℕ → Bool → Option ℕ → Take
take_of b t good None = takes.Stale
take_of b t true (Some job) = takes.First job (rival_of b.outs t job)
take_of b t false (Some job) = takes.Bad job

-- the ticket that is to be stopped
abbrev pub rival_in : Take → Option ℕ
rival_in (takes.First job rival) = rival
rival_in (takes.Bad job) = None
rival_in takes.Stale = None
