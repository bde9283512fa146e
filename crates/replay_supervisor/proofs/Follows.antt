-- What a call keeps, at each entry.
use Rattle.std.proofs.Common.{◌≡◌, ◌≢◌, ℕ, ◌+◌, ◌<◌, ◌&&◌, not, Bool, true, false, cond, List, [], ◌∷◌, ◌++◌, Option, None, Some, is_some, is_none, length, length-append, refl, sym, ◌∙◌, ap, subst, arith}
use Rattle.std.proofs.lemmas.Bool.{ne_eqb, eq-eqb, true≢false}
use Rattle.crew.specs.Log.{Entry, told, pieces_in}
use Rattle.crew.specs.Log.Entry.{Started, StartFailed, Fed, FeedFailed, Sealed, Reply, Died, Stopped}
use Rattle.replay_core.specs.Attempts.{attempt, job_of, without, ticket_of}
use Rattle.replay_core.specs.Book.{Book, new_account, is_done, with_account, is_now_done, ticket, after_started, after_start_failed, after_bad, after_stale}
use Rattle.replay_core.specs.Next.{MayStart, MustWait, open_in}
use Rattle.replay_core.specs.Below.{sum_below}
use Rattle.replay_core.specs.declared.attempt.Attempt.{Attempt}
use Rattle.replay_core.specs.declared.account.Account.{Account}
use Rattle.replay_core.proofs.Sums.{count-at, sum_below-same}
use Rattle.replay_core.specs.Kept.{IsBook}
use Rattle.replay_core.specs.declared.bad.Kind.TheVariants as kinds
use Rattle.replay_core.proofs.Attempts.{without-none, length-without, job-known, attempts-without, ticket-job}
use Rattle.replay_core.proofs.Kept.{bad-kept, stale-kept, first-alone-kept, first-rival-kept, undone}
use Rattle.replay_supervisor.specs.Jobs.{Work}
use Rattle.replay_supervisor.specs.Reading.{read, accepted, events_in}
use Rattle.replay_supervisor.specs.Steps.{Plan, moment, IsDraw, IsWindowed, moment_after_reply, stopping, open_jobs}
use Rattle.replay_supervisor.specs.Steps.Moment.{Idle, Feeding, Stopping}
use Rattle.replay_supervisor.specs.Matches.{Matches}
use Rattle.replay_supervisor.specs.Follows.{Books}
use Rattle.replay_supervisor.proofs.Matches.{same-wanted, matches-started, matches-start_failed, matches-fed, matches-sealed, matches-feed_failed, matches-died, matches-stale_died, matches-stale_reply, matches-bad_reply, matches-first, matches-stopped, replies-length}

-- a part of a log, told in one go or in two
pub told-more : (log : Option (List Entry)) (entry : Entry) (part : List Entry)
    → told (told log part) (entry ∷ []) ≡ told log (entry ∷ part)
told-more None entry part = refl
told-more (Some entries) entry part = refl

pub told-nothing : (log : Option (List Entry)) → log ≡ told log []
told-nothing None = refl
told-nothing (Some entries) = refl

-- the draw of a ticket
draw : (p : Plan) (b : Book) (log : List Entry) (job : ℕ) → Books p b log Idle → MayStart b job
    → IsDraw p log (ticket b)
draw p b log job h f =
    record {
      moment = h.moment;
      ticket = omega (arith, h.first, h.matches.drawn);
      room = subst (λ (outs : List _). length outs < p.window) h.matches.outs
          (subst (λ (w : ℕ). length b.outs < w) h.window f.room);
      job = (job, sym (same-wanted p.work b log h.matches) ∙ f.is);
    }

pub books-started : (p : Plan) (b : Book) (log : List Entry) (job : ℕ) → Books p b log Idle → MayStart b job
    → IsBook (after_started b job) → Books p (after_started b job) (Started (ticket b) ∷ log) (Feeding (ticket b))
unfolding moment events_in pieces_in
books-started p b log job h f kept =
    record {
      first = h.first;
      window = h.window;
      restarts = h.restarts;
      running = h.running;
      matches = matches-started p.work b log job h.matches f.known f.is;
      steps = (draw p b log job h f, h.steps);
      moment = refl;
      fresh = λ t above. h.fresh t (omega (arith, above));
      events = omega (arith, h.events, length-append b.outs (attempt (ticket b) job ∷ []));
      is_book = kept;
    }

pub books-start_failed : (p : Plan) (b : Book) (log : List Entry) (job : ℕ) → Books p b log Idle → MayStart b job
    → IsBook (after_start_failed b job) → Books p (after_start_failed b job) (StartFailed (ticket b) ∷ log) Idle
unfolding moment events_in pieces_in
books-start_failed p b log job h f kept =
    record {
      first = h.first;
      window = h.window;
      restarts = h.restarts;
      running = h.running;
      matches = matches-start_failed p.work b log (ticket b) job h.matches f.known f.is;
      steps = (draw p b log job h f, h.steps);
      moment = refl;
      fresh = λ t above. h.fresh t (omega (arith, above));
      events = omega (arith, h.events);
      is_book = kept;
    }

-- a piece of a ticket
pieces-other : (log : List Entry) (t s : ℕ) (piece : List ℕ) → s ≢ t → pieces_in (Fed t piece ∷ log) s ≡ pieces_in log s
unfolding pieces_in
pieces-other log t s piece apart = ap (λ (b : Bool). cond b (pieces_in log s ++ piece ∷ []) (pieces_in log s))
    (ne_eqb t s (λ e. apart (sym e)))

pub pieces-here : (log : List Entry) (t : ℕ) (piece : List ℕ) → pieces_in (Fed t piece ∷ log) t ≡ pieces_in log t
    ++ piece ∷ []
unfolding pieces_in
pieces-here log t piece = ap (λ (b : Bool). cond b (pieces_in log t ++ piece ∷ []) (pieces_in log t)) (eq-eqb t t refl)

pub books-fed : (p : Plan) (b : Book) (log : List Entry) (t job : ℕ) (piece : List ℕ) (rest : List (List ℕ))
    → Books p b log (Feeding t) → t < ticket b → job_of b.outs t ≡ Some job → p.work.pieces job ≡ pieces_in log t
    ++ piece ∷ rest → Books p b (Fed t piece ∷ log) (Feeding t)
unfolding moment events_in
books-fed p b log t job piece rest h below is pieces = record {
  first = h.first;
  window = h.window;
  restarts = h.restarts;
  running = h.running;
  matches = matches-fed p.work b log t piece h.matches;
  steps = (
    record {
      moment = h.moment;
      job = job;
      is_job = ap (λ outs. job_of outs t) (sym h.matches.outs)
          ∙ is;
      rest = rest;
      pieces = pieces;
    },
    h.steps,
  );
  moment = refl;
  fresh = λ s above. pieces-other log t s piece (λ e. omega (arith, e, above, below)) ∙ h.fresh s above;
  events = omega (arith, h.events);
  is_book = h.is_book;
}

pub books-sealed : (p : Plan) (b : Book) (log : List Entry) (t job : ℕ) → Books p b log (Feeding t)
    → job_of b.outs t ≡ Some job → pieces_in log t ≡ p.work.pieces job → Books p b (Sealed t ∷ log) Idle
unfolding moment events_in pieces_in
books-sealed p b log t job h is pieces = record {
  first = h.first;
  window = h.window;
  restarts = h.restarts;
  running = h.running;
  matches = matches-sealed p.work b log t h.matches;
  steps = (
    record {
      moment = h.moment;
      job = job;
      is_job = ap (λ outs. job_of outs t) (sym h.matches.outs)
          ∙ is;
      pieces = pieces;
    },
    h.steps,
  );
  moment = refl;
  fresh = λ s above. h.fresh s above;
  events = omega (arith, h.events);
  is_book = h.is_book;
}

-- a ticket whose feed or seal failed
pub books-feed_failed : (p : Plan) (b : Book) (log : List Entry) (t job : ℕ) → Books p b log (Feeding t)
    → job_of b.outs t ≡ Some job → Books p (after_bad b t job kinds.Feed) (FeedFailed t ∷ log) (Stopping t)
unfolding moment events_in pieces_in
books-feed_failed p b log t job h is =
    let known = job-known (b.first + b.drawn) (length b.accounts) b.outs t job h.is_book.outs is in
    record {
      first = h.first;
      window = h.window;
      restarts = h.restarts;
      running = h.running;
      matches = matches-feed_failed p.work b log t job h.matches known is;
      steps = (h.moment, h.steps);
      moment = refl;
      fresh = λ s above. h.fresh s above;
      events = omega (arith, h.events, length-without b.outs t job is);
      is_book = bad-kept b t job kinds.Feed is h.is_book;
    }

-- a ticket that died
pub books-died : (p : Plan) (b : Book) (log : List Entry) (t job : ℕ) → Books p b log Idle → IsWindowed p log
    → job_of b.outs t ≡ Some job → Books p (after_bad b t job kinds.Died) (Died t ∷ log) Idle
unfolding moment events_in pieces_in
books-died p b log t job h full is =
    let known = job-known (b.first + b.drawn) (length b.accounts) b.outs t job h.is_book.outs is in
    record {
      first = h.first;
      window = h.window;
      restarts = h.restarts;
      running = h.running;
      matches = matches-died p.work b log t job h.matches known is;
      steps = (full, h.steps);
      moment = refl;
      fresh = λ s above. h.fresh s above;
      events = omega (arith, h.events, length-without b.outs t job is);
      is_book = bad-kept b t job kinds.Died is h.is_book;
    }

pub books-stale_died : (p : Plan) (b : Book) (log : List Entry) (t : ℕ) → Books p b log Idle → IsWindowed p log
    → b.stale < 4096 → job_of b.outs t ≡ None → Books p (after_stale b) (Died t ∷ log) Idle
unfolding moment events_in pieces_in
books-stale_died p b log t h full few is = record {
  first = h.first;
  window = h.window;
  restarts = h.restarts;
  running = h.running;
  matches = matches-stale_died p.work b log t h.matches is;
  steps = (full, h.steps);
  moment = refl;
  fresh = λ s above. h.fresh s above;
  events = omega (arith, h.events);
  is_book = stale-kept b few h.is_book;
}

-- where the book waits, the log may have an event
none_some : {A : Type 0} (o : Option A) → is_none o ≡ not (is_some o)
none_some None = refl
none_some (Some x) = refl

pub open-same : (p : Plan) (b : Book) (log : List Entry) → Matches p.work b log
    → open_in b.accounts ≡ open_jobs (read p.work log)
open-same p b log h =
    let left = count-at (λ (a : Account). not a.done) b.accounts new_account in
    let right = count-at (λ (o : Option (List ℕ)). is_none o) (read p.work log).replies None in
    let each = sum_below-same (λ j. cond {A = ℕ} (not (is_done b j)) 1 0)
    (λ j. cond {A = ℕ} (is_none (accepted (read p.work log) j)) 1 0) (length b.accounts)
    (λ j below. ap (λ (t : Bool). cond {A = ℕ} t 1 0) (ap (λ (t : Bool). not t) (h.dones j)
    ∙ sym (none_some (accepted (read p.work log) j)))) in
    let size = ap (λ n. sum_below (λ j. cond {A = ℕ} (is_none (accepted (read p.work log) j)) 1 0) n)
    (h.count ∙ sym (replies-length p.work log)) in
    left ∙ each ∙ size ∙ sym right

pub windowed : (p : Plan) (b : Book) (log : List Entry) → Books p b log Idle → MustWait b → IsWindowed p log
windowed p b log h waits =
    let same = open-same p b log h.matches in
    let outs = ap (λ (xs : List Attempt). length xs) h.matches.outs in
    record {
      moment = h.moment;
      full = omega (arith, waits.full, same, outs, h.window);
      some_open = omega
          (arith, waits.some_open, same);
    }

-- a reply
pub books-stale_reply : (p : Plan) (b : Book) (log : List Entry) (t : ℕ) (bytes : List ℕ) → Books p b log Idle
    → IsWindowed p log → b.stale < 4096 → job_of b.outs t ≡ None → Books p (after_stale b) (Reply t bytes ∷ log) Idle
unfolding moment events_in pieces_in
books-stale_reply p b log t bytes h full few is = record {
  first = h.first;
  window = h.window;
  restarts = h.restarts;
  running = h.running;
  matches = matches-stale_reply p.work b log t bytes h.matches is;
  steps = (full, h.steps);
  moment = ap (λ o. moment_after_reply p.work (read p.work log) t bytes o)
      (ap (λ outs. job_of outs t) (sym h.matches.outs) ∙ is);
  fresh = λ s above. h.fresh s above;
  events = omega (arith, h.events);
  is_book = stale-kept b few h.is_book;
}

pub books-bad_reply : (p : Plan) (b : Book) (log : List Entry) (t job : ℕ) (bytes : List ℕ) → Books p b log Idle
    → IsWindowed p log → job_of b.outs t ≡ Some job → p.work.is_good job bytes ≡ false
    → Books p (after_bad b t job kinds.Reply) (Reply t bytes ∷ log) Idle
unfolding moment events_in pieces_in
books-bad_reply p b log t job bytes h full is bad =
    let known = job-known (b.first + b.drawn) (length b.accounts) b.outs t job h.is_book.outs is in
    record {
      first = h.first;
      window = h.window;
      restarts = h.restarts;
      running = h.running;
      matches = matches-bad_reply p.work b log t job bytes h.matches known is bad;
      steps = (full, h.steps);
      moment = ap (λ o. moment_after_reply p.work (read p.work log) t bytes o)
          (ap (λ outs. job_of outs t) (sym h.matches.outs) ∙ is)
          ∙ ap (λ (g : Bool). cond (g && is_none (accepted (read p.work log) job))
          (stopping (ticket_of (without t (read p.work log).outs) job)) Idle) bad;
      fresh = λ s above. h.fresh s above;
      events = omega (arith, h.events, length-without b.outs t job is);
      is_book = bad-kept b t job kinds.Reply is h.is_book;
    }

pub is_free : (o : Option (List ℕ)) → is_some o ≡ false → is_none o ≡ true
is_free None h = refl
is_free (Some x) h = absurd (true≢false h)

moment-stopped : (work : Work) (t : ℕ) (log : List Entry) → moment work (Stopped t ∷ log) ≡ Idle
unfolding moment
moment-stopped work t log = refl

-- what comes after a first good reply
moment-first : (p : Plan) (b : Book) (log : List Entry) (t job : ℕ) (bytes : List ℕ) (o : Option ℕ) → Books p b log Idle
    → job_of b.outs t ≡ Some job → p.work.is_good job bytes ≡ true → ticket_of (without t b.outs) job ≡ o
    → moment p.work (Reply t bytes ∷ log) ≡ stopping o
unfolding moment
moment-first p b log t job bytes o h is good other =
    ap (λ o. moment_after_reply p.work (read p.work log) t bytes o)
    (ap (λ outs. job_of outs t) (sym h.matches.outs) ∙ is)
    ∙ ap (λ (g : Bool). cond (g && is_none (accepted (read p.work log) job))
    (stopping (ticket_of (without t (read p.work log).outs) job)) Idle) good
    ∙ ap (λ (g : Bool). cond g (stopping (ticket_of (without t (read p.work log).outs) job)) Idle)
    (is_free (accepted (read p.work log) job) (sym (h.matches.dones job) ∙ undone b t job h.is_book is))
    ∙ ap (λ outs. stopping (ticket_of (without t outs) job)) (sym h.matches.outs) ∙ ap stopping other

pub books-first_alone : (p : Plan) (b : Book) (log : List Entry) (t job : ℕ) (bytes : List ℕ) → Books p b log Idle
    → IsWindowed p log → job_of b.outs t ≡ Some job → p.work.is_good job bytes ≡ true
    → ticket_of (without t b.outs) job ≡ None
    → Books p (record {
      first = b.first;
      window = b.window;
      restarts = b.restarts;
      drawn = b.drawn;
      stale = b.stale;
      is_stopping = b.is_stopping;
      outs = without t b.outs;
      accounts = with_account b.accounts job is_now_done;
    })
    (Reply t bytes ∷ log) Idle
unfolding events_in pieces_in
books-first_alone p b log t job bytes h full is good alone =
    let known = job-known (b.first + b.drawn) (length b.accounts) b.outs t job h.is_book.outs is in
    record {
      first = h.first;
      window = h.window;
      restarts = h.restarts;
      running = h.running;
      matches = matches-first p.work b log t job bytes h.matches known is (undone b t job h.is_book is) good;
      steps = (full, h.steps);
      moment = moment-first p b log t job bytes None h is good alone;
      fresh = λ s above. h.fresh s above;
      events = omega (arith, h.events, length-without b.outs t job is);
      is_book = first-alone-kept b t job is alone h.is_book;
    }

pub books-first_rival : (p : Plan) (b : Book) (log : List Entry) (t job rival : ℕ) (bytes : List ℕ) → Books p b log Idle
    → IsWindowed p log → job_of b.outs t ≡ Some job → p.work.is_good job bytes ≡ true
    → ticket_of (without t b.outs) job ≡ Some rival
    → Books p (record {
      first = b.first;
      window = b.window;
      restarts = b.restarts;
      drawn = b.drawn;
      stale = b.stale;
      is_stopping = b.is_stopping;
      outs = without rival (without t b.outs);
      accounts = with_account b.accounts job
          is_now_done;
    }) (Stopped rival ∷ Reply t bytes ∷ log) Idle
unfolding events_in pieces_in
books-first_rival p b log t job rival bytes h full is good other =
    let known = job-known (b.first + b.drawn) (length b.accounts) b.outs t job h.is_book.outs is in
    let left = attempts-without (b.first + b.drawn) (length b.accounts) b.outs t h.is_book.outs in
    let is_rival = ticket-job (b.first + b.drawn) (length b.accounts) (without t b.outs) job rival left other in
    record {
      first = h.first;
      window = h.window;
      restarts = h.restarts;
      running = h.running;
      matches = matches-stopped p.work
          (record {
            first = b.first;
            window = b.window;
            restarts = b.restarts;
            drawn = b.drawn;
            stale = b.stale;
            is_stopping = b.is_stopping;
            outs = without t b.outs;
            accounts = with_account b.accounts job is_now_done;
          })
          (Reply t bytes ∷ log) rival
          (matches-first p.work b log t job bytes h.matches known is (undone b t job h.is_book is) good);
      steps = (moment-first p b log t job bytes (Some rival) h is good other, (full, h.steps));
      moment = moment-stopped p.work rival (Reply t bytes ∷ log);
      fresh = λ s above. h.fresh s above;
      events = omega (
        arith,
        h.events,
        length-without b.outs t job is,
        length-without (without t b.outs) rival job
            is_rival,
      );
      is_book = first-rival-kept b t job rival is other h.is_book;
    }

-- the stop of a ticket that is out no longer in the log
pub books-failure_stopped : (p : Plan) (b : Book) (log : List Entry) (t : ℕ) → Books p b log (Stopping t)
    → job_of b.outs t ≡ None → Books p b (Stopped t ∷ log) Idle
unfolding events_in pieces_in
books-failure_stopped p b log t h gone = record {
  first = h.first;
  window = h.window;
  restarts = h.restarts;
  running = h.running;
  matches = subst (λ (outs : List Attempt). Matches p.work
      (record {
        first = b.first;
        window = b.window;
        restarts = b.restarts;
        drawn = b.drawn;
        stale = b.stale;
        is_stopping = b.is_stopping;
        outs = outs;
        accounts = b.accounts;
      }) (Stopped t ∷ log))
      (without-none b.outs t gone) (matches-stopped p.work b log t h.matches);
  steps = (h.moment, h.steps);
  moment = moment-stopped p.work t log;
  fresh = λ s above. h.fresh s above;
  events = omega (arith, h.events);
  is_book = h.is_book;
}
