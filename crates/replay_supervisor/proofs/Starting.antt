-- The start and the end of a call.
use Rattle.std.proofs.Common.{◌≡◌, ℕ, zero, suc, ◌<◌, false, inl, List, [], ◌∷◌, None, Ok, Err, is_some, replicate, length, refl, sym, ◌∙◌, ap, subst, arith}
use Rattle.std.proofs.Math.ListN.{length-replicate}
use Rattle.crew.specs.Log.{Entry, told, pieces_in}
use Rattle.crew.specs.Log.Entry.{Stopped}
use Rattle.crew.specs.Crew.{CrewState}
use Rattle.replay_core.specs.Attempts.{is_out}
use Rattle.replay_core.specs.Book.{Book, new_book, new_account, account_at, total}
use Rattle.replay_core.specs.Next.{AreFew, IsNear}
use Rattle.replay_core.specs.Kept.{IsBook}
use Rattle.replay_core.specs.declared.account.Account.{Account}
use Rattle.replay_core.specs.declared.attempt.Attempt.{Attempt}
use Rattle.replay_core.specs.declared.bad.Bad.{Bad}
use Rattle.replay_core.proofs.Attempts.{out-nil}
use Rattle.replay_supervisor.specs.Counted.{RoseBy, crew_faults}
use Rattle.replay_supervisor.specs.Jobs.{JobsState, Standing}
use Rattle.replay_supervisor.specs.Matches.{Matches}
use Rattle.replay_supervisor.specs.Outcome.{IsUnspent, Stops, Supervised}
use Rattle.replay_supervisor.specs.Reading.{read, accepted, bad_in, stale_in, drawn_in, events_in}
use Rattle.replay_supervisor.specs.Steps.{Plan, moment, with_stops}
use Rattle.replay_supervisor.specs.Steps.Moment.{Idle}
use Rattle.replay_supervisor.specs.Stopping.{IsStopped}
use Rattle.replay_supervisor.specs.Follows.{Books, Ended, Follows, Halts, Turns, plan_of}
use Rattle.replay_supervisor.specs.declared.stop.Stop.{Stop}
use Rattle.replay_supervisor.specs.declared.stop.Stop.TheVariants as stops
use Rattle.replay_supervisor.proofs.Follows.{open-same, told-nothing}
use Rattle.replay_supervisor.proofs.Halting.{halts-of, is-log}
use Rattle.replay_supervisor.proofs.Tells.{rose-same}

fresh-at : (n i : ℕ) → account_at (replicate n new_account) i ≡ new_account
fresh-at zero i = refl
fresh-at (suc n) zero = refl
fresh-at (suc n) (suc i) = fresh-at n i

no-reply : (n i : ℕ) → is_some (accepted (record { outs = []; replies = replicate n None }) i) ≡ false
no-reply zero i = refl
no-reply (suc n) zero = refl
no-reply (suc n) (suc i) = no-reply n i

below-count : (p : Plan) (b : Book) (log : List Entry) (job : ℕ) → Matches p.work b log → job < p.work.count
    → job < length b.accounts
below-count p b log job h below = omega (arith, below, h.count)

unspent-log : (p : Plan) (b : Book) (log : List Entry) → Books p b log Idle → AreFew b.restarts b.accounts
    → IsUnspent p log
unspent-log p b log h few job below = omega (
  arith,
  few job (below-count p b log job h.matches below),
  ap total
      (h.matches.bads job),
  h.restarts,
)

-- before the first turn
pub start-follows : (crew : CrewState) (jobs : JobsState) (standing : Standing) (window restarts : ℕ)
    → IsBook (new_book crew.issued jobs.work.count window restarts) → ((t : ℕ) → crew.is_out t ≡ false)
    → ((job : ℕ) → jobs.has_taken job ≡ false) → standing (replicate jobs.work.count None)
    → Follows (plan_of jobs (new_book crew.issued jobs.work.count window restarts)) crew crew jobs standing
    (new_book crew.issued jobs.work.count window restarts) Idle
unfolding new_book read bad_in stale_in drawn_in events_in pieces_in moment
start-follows crew jobs standing window restarts kept none fresh stands = record {
  log = [];
  tells = record {
    says = told-nothing crew.log;
    issued = omega arith;
    outs = λ t. none t
        ∙ sym (out-nil t);
    later = omega arith;
    faults = λ job. omega arith;
  };
  holds = record { work = refl; marks = λ job. fresh job ∙ sym (no-reply jobs.work.count job); stands = stands };
  books = record {
    first = refl;
    window = refl;
    restarts = refl;
    running = refl;
    matches = record {
      count = length-replicate jobs.work.count new_account;
      outs = refl;
      dones = λ job. ap (λ (a : Account). a.done) (fresh-at jobs.work.count job) ∙ sym (no-reply jobs.work.count job);
      bads = λ job. ap (λ (a : Account). a.bad) (fresh-at jobs.work.count job);
      stale = refl;
      drawn = refl;
    };
    steps = tt;
    moment = refl;
    fresh = λ t above. refl;
    events = omega arith;
    is_book = kept;
  };
}

-- no job has a bad attempt before the first turn
pub start-near : (n restarts : ℕ) → IsNear restarts 0 (replicate n new_account)
start-near n restarts = inl (record {
  few = λ job below. omega (arith, ap (λ (a : Account). total a.bad) (fresh-at n job));
  fresh = omega arith;
})

pub start-turns : (crew : CrewState) (jobs : JobsState) (standing : Standing) (window restarts : ℕ)
    → IsBook (new_book crew.issued jobs.work.count window restarts) → ((t : ℕ) → crew.is_out t ≡ false)
    → ((job : ℕ) → jobs.has_taken job ≡ false) → standing (replicate jobs.work.count None)
    → Turns (plan_of jobs (new_book crew.issued jobs.work.count window restarts)) crew crew jobs standing
    (new_book crew.issued jobs.work.count window restarts)
unfolding new_book
start-turns crew jobs standing window restarts kept none fresh stands = record {
  follows = start-follows crew jobs standing window restarts kept none fresh stands;
  near = start-near jobs.work.count restarts;
}

-- stops draw no ticket
drawn-stopped : (t : ℕ) (log : List Entry) → drawn_in (Stopped t ∷ log) ≡ drawn_in log
unfolding drawn_in
drawn-stopped t log = omega arith

drawn-stops : (outs : List Attempt) (log : List Entry) → drawn_in (with_stops outs log) ≡ drawn_in log
drawn-stops [] log = refl
drawn-stops (a ∷ outs) log = drawn-stops outs (Stopped a.ticket ∷ log) ∙ drawn-stopped a.ticket log

-- every job is done
pub finish : (p : Plan) (start now : CrewState) (jobs : JobsState) (standing : Standing) (b : Book) (u : Unit {0})
    → Ended p start now jobs standing b (Ok u) → p.first ≡ start.issued → Supervised p start now jobs standing (Ok u)
finish p start now jobs standing b u e first =
    let f = e.0 in
    let known = λ (j : ℕ) (below : j < p.work.count). below-count p b f.log j f.books.matches below in
    record {
      part = f.log;
      log = f.tells.says;
      issued = omega (arith, f.tells.issued, f.books.first, f.books.matches.drawn, first);
      faults = f.tells.later;
      taken = (read p.work f.log).replies;
      stands = f.holds.stands;
      work = f.holds.work;
      marks = f.holds.marks;
      answers = record {
        is_log = is-log p b f.log Idle f.books;
        finished = record {
          moment = f.books.moment;
          accepted = λ job below. sym (f.books.matches.dones job) ∙ e.1.all job (known job below);
          unspent = unspent-log p b f.log f.books e.2.few;
          fresh = omega (arith, e.2.fresh, f.books.matches.stale);
        };
        all = refl;
      };
      none_out = λ t. f.tells.outs t ∙ ap (λ xs. is_out xs t) e.1.none_out ∙ out-nil t;
    }

-- a call that is broken off, and then each ticket that is out is stopped
halted : (stop : Stop) (p : Plan) (start mid now : CrewState) (jobs : JobsState) (standing : Standing) (b : Book)
    (h : Halts p start mid jobs standing b) → p.first ≡ start.issued → IsStopped mid now b
    → Stops p start now h.log h.taken stop → Supervised p start now jobs standing (Err stop)
halted stop p start mid now jobs standing b h first end why = record {
  part = with_stops (read p.work h.log).outs h.log;
  log = end.tells start.log h.log h.says ∙ ap (λ xs. told start.log (with_stops xs h.log)) h.outs;
  issued = omega (arith, end.issued, h.issued, first, drawn-stops (read p.work h.log).outs h.log);
  faults = omega (arith, h.later, end.faults);
  taken = h.taken;
  stands = h.stands;
  work = h.work;
  marks = h.marks;
  answers = record { log = h.log; whole = refl; is_log = h.is_log; why = why };
  none_out = end.none_out;
}

pub halt : (stop : Stop) (p : Plan) (start mid now : CrewState) (jobs : JobsState) (standing : Standing) (b : Book)
    → Ended p start mid jobs standing b (Err stop) → p.first ≡ start.issued → IsStopped mid now b
    → Supervised p start now jobs standing (Err stop)
unfolding halts-of
halt (stops.RestartsSpent job bad) p start mid now jobs standing b e first end =
    let f = e.0 in
    let counts = e.2 ∙ f.books.matches.bads job in
    halted (stops.RestartsSpent job bad) p start mid now jobs standing b
    (halts-of p start mid jobs standing b f.log Idle f.tells f.holds f.books) first end (
      refl,
      record {
        moment = f.books.moment;
        known = omega (arith, e.1.known, f.books.matches.count);
        counts = counts;
        spent = omega (arith, ap total e.2, e.1.one, f.books.restarts);
        others = λ j below apart. omega (
          arith,
          e.1.others j (below-count p b f.log j f.books.matches below) apart,
          ap total (f.books.matches.bads j),
          f.books.restarts,
        );
        fresh = omega (arith, e.1.fresh, f.books.matches.stale);
        some_open = omega (arith, e.1.some_open, open-same p b f.log f.books.matches);
        faults = subst (λ (x : Bad). RoseBy (crew_faults x) start.faults now.faults) (sym counts)
            (rose-same (crew_faults (bad_in p.work f.log job)) start.faults mid.faults now.faults (f.tells.faults job)
            end.faults);
      },
    )
halt stops.StaleLimit p start mid now jobs standing b e first end =
    let f = e.0 in
    halted stops.StaleLimit p start mid now jobs standing b
    (halts-of p start mid jobs standing b f.log Idle f.tells f.holds f.books) first end (
      refl,
      record {
        moment = f.books.moment;
        unspent = unspent-log p b f.log f.books e.1.few;
        stale = omega (arith, e.1.many, f.books.matches.stale);
        some_open = omega (arith, e.1.some_open, open-same p b f.log f.books.matches);
      },
    )
halt stops.Memory p start mid now jobs standing b e first end = halted stops.Memory p start mid now jobs standing b e
    first end e.held

-- a call for which there was no memory at all
pub nothing : (p : Plan) (crew : CrewState) (jobs : JobsState) (standing : Standing) → p.work ≡ jobs.work
    → ((t : ℕ) → crew.is_out t ≡ false) → ((job : ℕ) → jobs.has_taken job ≡ false)
    → standing (replicate p.work.count None) → Supervised p crew crew jobs standing (Err stops.Memory)
unfolding read drawn_in events_in
nothing p crew jobs standing work none fresh stands = record {
  part = [];
  log = told-nothing crew.log;
  issued = omega arith;
  faults = omega arith;
  taken = replicate p.work.count None;
  stands = stands;
  work = sym work;
  marks = λ job. fresh job ∙ sym (no-reply p.work.count job);
  answers = record {
    log = [];
    whole = refl;
    is_log = record { steps = tt; drawn = omega arith; events = omega arith };
    why = inl refl;
  };
  none_out = none;
}
