-- A turn keeps what a call keeps.
use Rattle.std.proofs.Common.{◌≡◌, ℕ, ◌+◌, ◌≤◌, ◌<◌, ◌==◌, ◌&&◌, ◌||◌, not, Bool, true, false, cond, inl, inr, List, [], ◌∷◌, ◌++◌, Option, None, Some, Ok, Err, Result, OnOk, is_some, is_none, length, set, take, drop, take_all, slice_get, get_or, refl, sym, ◌∙◌, ap, subst, arith}
use Rattle.std.proofs.lemmas.Bool.{cases_Bool, cases_lt, eq-eqb, eqb-true, true≢false}
use Rattle.std.proofs.lemmas.Option.{none-some, slice_get_within, slice_get-get_or, get_or_from_slice_get}
use Rattle.std.proofs.lemmas.Grind.{common_steps}
use Rattle.crew.specs.Log.{Entry, pieces_in}
use Rattle.crew.specs.Log.Entry.{Started, StartFailed, Fed, FeedFailed, Sealed, Reply, Died, Stopped}
use Rattle.crew.specs.Crew.{CrewState, Dies, Fails, Joins, Leaves, Notes}
use Rattle.crew.specs.Crew.{Sealed as Sealed_by, Fed as Fed_by}
use Rattle.crew.specs.declared.event.CrewStop.{CrewStop}
use Rattle.crew.specs.declared.event.CrewStop.TheVariants as stops
use Rattle.replay_core.proofs.Kept.{undone}
use Rattle.replay_core.specs.Attempts.{job_of, is_out, without, ticket_of}
use Rattle.replay_core.specs.Book.{Book, is_now_done, with_account, after_bad, after_first, after_stale, after_reply, after_died, after_started, after_start_failed, ticket, take_of, rival_in, rival_of, without_both}
use Rattle.replay_core.specs.declared.attempt.Attempt.{Attempt}
use Rattle.replay_core.specs.declared.bad.Kind.TheVariants as kinds
use Rattle.replay_core.specs.Next.{MayStart, MustWait}
use Rattle.replay_core.proofs.Attempts.{without-none, job-nil, job-cons, out-without, out-job, job-known, attempts-without, ticket-job}
use Rattle.replay_core.specs.Kept.{IsBook, AreAttempts}
use Rattle.replay_supervisor.specs.Jobs.{JobsState, Standing, Stays, Took, TookOne, Work}
use Rattle.replay_supervisor.specs.Reading.{read, accepted, with_reply}
use Rattle.replay_supervisor.specs.Agrees.{Agrees}
use Rattle.replay_supervisor.specs.Steps.{Plan, Moment}
use Rattle.replay_supervisor.specs.Steps.Moment.{Idle}
use Rattle.replay_supervisor.specs.Follows.{Tells, Books, FedOutcome, FeedFails, Feeds, Follows, Replied}
use Rattle.replay_supervisor.proofs.Follows.{books-stale_reply, books-bad_reply, books-first_alone, books-first_rival, is_free, windowed, books-died, books-stale_died, books-started, books-start_failed, books-feed_failed, books-failure_stopped, books-fed, books-sealed, pieces-here}
use Rattle.replay_supervisor.proofs.Tells.{joined-out, tells-leaves, tells-started, tells-fed, tells-sealed, tells-start_failed, tells-failed, faults-died, faults-reply, faults-stopped, holds-same, holds-stays, holds-took}

-- the replies after a reply, by its job
replies-none : (p : Plan) (b : Book) (log : List Entry) (t : ℕ) (bytes : List ℕ) → b.outs ≡ (read p.work log).outs
    → job_of b.outs t ≡ None → (read p.work (Reply t bytes ∷ log)).replies ≡ (read p.work log).replies
unfolding read
replies-none p b log t bytes outs is = ap (λ o. with_reply p.work (read p.work log).replies bytes o)
    (ap (λ xs. job_of xs t) (sym outs) ∙ is)

replies-bad : (p : Plan) (b : Book) (log : List Entry) (t job : ℕ) (bytes : List ℕ) → b.outs ≡ (read p.work log).outs
    → job_of b.outs t ≡ Some job → p.work.is_good job bytes ≡ false
    → (read p.work (Reply t bytes ∷ log)).replies ≡ (read p.work log).replies
unfolding read
replies-bad p b log t job bytes outs is bad = ap (λ o. with_reply p.work (read p.work log).replies bytes o)
    (ap (λ xs. job_of xs t) (sym outs) ∙ is)
    ∙ ap (λ (g : Bool). cond (g && is_none (accepted (read p.work log) job))
    (set (read p.work log).replies job (Some bytes)) (read p.work log).replies) bad

replies-good : (p : Plan) (b : Book) (log : List Entry) (t job : ℕ) (bytes : List ℕ) → Books p b log Idle
    → job_of b.outs t ≡ Some job → p.work.is_good job bytes ≡ true
    → (read p.work (Reply t bytes ∷ log)).replies ≡ set (read p.work log).replies job (Some bytes)
unfolding read
replies-good p b log t job bytes h is good = ap (λ o. with_reply p.work (read p.work log).replies bytes o)
    (ap (λ xs. job_of xs t) (sym h.matches.outs) ∙ is)
    ∙ ap (λ (g : Bool). cond (g && is_none (accepted (read p.work log) job))
    (set (read p.work log).replies job (Some bytes)) (read p.work log).replies) good
    ∙ ap (λ (g : Bool). cond g (set (read p.work log).replies job (Some bytes)) (read p.work log).replies)
    (is_free (accepted (read p.work log) job) (sym (h.matches.dones job) ∙ undone b t job h.is_book is))

replies-stopped : (p : Plan) (log : List Entry) (t : ℕ)
    → (read p.work (Stopped t ∷ log)).replies ≡ (read p.work log).replies
unfolding read
replies-stopped p log t = refl

pub follows-stale : (p : Plan) (start now : CrewState) (jobs : JobsState) (standing : Standing) (b : Book) (t : ℕ)
    (bytes : List ℕ) → Replied p start now jobs standing b t bytes → b.stale < 4096 → job_of b.outs t ≡ None
    → Follows p start now jobs standing (after_stale b) Idle
follows-stale p start now jobs standing b t bytes r few is = record {
  log = Reply t bytes ∷ r.log;
  tells = tells-leaves p start r.before now b (after_stale b) r.log t (b.first + b.drawn) (length b.accounts)
      (Reply t bytes) r.tells r.left r.books.is_book.outs (sym (without-none b.outs t is)) refl
      (faults-reply p start r.before now b r.log t bytes r.tells r.left.faults);
  holds = holds-same p jobs standing r.log (Reply t bytes ∷ r.log)
      (replies-none p b r.log t bytes r.books.matches.outs is) r.holds;
  books = books-stale_reply p b r.log t bytes r.books r.full few is;
}

follows-bad : (p : Plan) (start now : CrewState) (old new : JobsState) (stood standing : Standing) (b : Book)
    (t job : ℕ) (bytes : List ℕ) → Replied p start now old stood b t bytes → job_of b.outs t ≡ Some job
    → (old.work.is_good job bytes ≡ false) × Stays old new stood standing
    → Follows p start now new standing (after_bad b t job kinds.Reply) Idle
follows-bad p start now old new stood standing b t job bytes r is took =
    let bad = ap (λ (w : Work). w.is_good job bytes) (sym r.holds.work) ∙ took.0 in
    record {
      log = Reply t bytes ∷ r.log;
      tells = tells-leaves p start r.before now b (after_bad b t job kinds.Reply) r.log t (b.first + b.drawn)
          (length b.accounts) (Reply t bytes) r.tells r.left r.books.is_book.outs refl refl
          (faults-reply p start r.before now b r.log t bytes r.tells r.left.faults);
      holds = holds-same p new standing r.log (Reply t bytes ∷ r.log)
          (replies-bad p b r.log t job bytes r.books.matches.outs is bad)
          (holds-stays p old new stood standing r.log took.1 r.holds);
      books = books-bad_reply p b r.log t job bytes r.books r.full is bad;
    }

-- the book after a job is done, by its rival
after : Book → ℕ → ℕ → Option ℕ → Book
after b t job rival = record {
  first = b.first;
  window = b.window;
  restarts = b.restarts;
  drawn = b.drawn;
  stale = b.stale;
  is_stopping = b.is_stopping;
  outs = without_both t rival b.outs;
  accounts = with_account b.accounts
      job is_now_done;
}

after-is : (b : Book) (t job : ℕ) (rival : Option ℕ) → rival_of b.outs t job ≡ rival
    → after_first b t job ≡ after b t job rival
unfolding after
after-is b t job rival is = ap (λ (r : Option ℕ). after b t job r) is

follows-alone : (p : Plan) (start now : CrewState) (old new : JobsState) (stood standing : Standing) (b : Book)
    (t job : ℕ) (bytes : List ℕ) → Replied p start now old stood b t bytes → job_of b.outs t ≡ Some job
    → TookOne job bytes old new stood standing → ticket_of (without t b.outs) job ≡ None
    → Follows p start now new standing (after_first b t job) Idle
unfolding after
follows-alone p start now old new stood standing b t job bytes r is took alone =
    let good = ap (λ (w : Work). w.is_good job bytes) (sym r.holds.work) ∙ took.good in
    let known = job-known (b.first + b.drawn) (length b.accounts) b.outs t job r.books.is_book.outs is in
    subst (λ (x : Book). Follows p start now new standing x Idle) (sym (after-is b t job None alone)) (record {
      log = Reply t bytes ∷ r.log;
      tells = tells-leaves p start r.before now b (after b t job None) r.log t (b.first + b.drawn) (length b.accounts)
          (Reply t bytes) r.tells r.left r.books.is_book.outs refl refl
          (faults-reply p start r.before now b r.log t bytes r.tells r.left.faults);
      holds = holds-took p old new stood standing r.log (Reply t bytes ∷ r.log) job bytes
          (omega (arith, known, r.books.matches.count)) (replies-good p b r.log t job bytes r.books is good) took
          r.holds;
      books = books-first_alone p b r.log t job bytes r.books r.full is good alone;
    })

pub follows-rival : (p : Plan) (start now later : CrewState) (old new : JobsState) (stood standing : Standing)
    (b : Book) (t job rival : ℕ) (bytes : List ℕ) → Replied p start now old stood b t bytes → job_of b.outs t ≡ Some job
    → TookOne job bytes old new stood standing → ticket_of (without t b.outs) job ≡ Some rival
    → Leaves rival (Stopped rival) now later → Follows p start later new standing (after_first b t job) Idle
unfolding after
follows-rival p start now later old new stood standing b t job rival bytes r is took other stopped =
    let good = ap (λ (w : Work). w.is_good job bytes) (sym r.holds.work) ∙ took.good in
    let known = job-known (b.first + b.drawn) (length b.accounts) b.outs t job r.books.is_book.outs is in
    let between = tells-leaves p start r.before now b (after b t job None) r.log t (b.first + b.drawn)
    (length b.accounts) (Reply t bytes) r.tells r.left r.books.is_book.outs refl refl
    (faults-reply p start r.before now b r.log t bytes r.tells r.left.faults) in
    subst (λ (x : Book). Follows p start later new standing x Idle) (sym (after-is b t job (Some rival) other))
    (record {
      log = Stopped rival ∷ Reply t bytes ∷ r.log;
      tells = tells-leaves p start now later (after b t job None) (after b t job (Some rival)) (Reply t bytes ∷ r.log)
          rival (b.first + b.drawn) (length b.accounts) (Stopped rival) between stopped
          (attempts-without (b.first + b.drawn) (length b.accounts) b.outs t r.books.is_book.outs) refl refl
          (faults-stopped p start now later (after b t job None) (Reply t bytes ∷ r.log) rival between stopped.faults);
      holds = holds-same p new standing (Reply t bytes ∷ r.log) (Stopped rival ∷ Reply t bytes ∷ r.log)
          (replies-stopped p (Reply t bytes ∷ r.log) rival)
          (holds-took p old new stood standing r.log (Reply t bytes ∷ r.log) job bytes
          (omega (arith, known, r.books.matches.count)) (replies-good p b r.log t job bytes r.books is good) took
          r.holds);
      books = books-first_rival p b r.log t job rival bytes r.books r.full is good other;
    })

-- a reply after which no ticket is to be stopped
pub follows-none : (good : Bool) (p : Plan) (start now : CrewState) (old new : JobsState) (stood standing : Standing)
    (b : Book) (t job : ℕ) (bytes : List ℕ) → Replied p start now old stood b t bytes → job_of b.outs t ≡ Some job
    → Took job bytes old new stood standing (Ok good) → rival_in (take_of b t good (Some job)) ≡ None
    → Follows p start now new standing (after_reply b t good (Some job)) Idle
follows-none true p start now old new stood standing b t job bytes r is took none = follows-alone p start now old new
    stood standing b t job bytes r is took none
follows-none false p start now old new stood standing b t job bytes r is took none = follows-bad p start now old new
    stood standing b t job bytes r is took

-- a reply after which a ticket is to be stopped is the first good one
pub rival-some : (good : Bool) (b : Book) (t job rival : ℕ) → rival_in (take_of b t good (Some job)) ≡ Some rival
    → (good ≡ true) × (ticket_of (without t b.outs) job ≡ Some rival)
rival-some true b t job rival is = (refl, is)
rival-some false b t job rival is = absurd (none-some rival is)

pub follows-some : (good : Bool) (p : Plan) (start now later : CrewState) (old new : JobsState)
    (stood standing : Standing) (b : Book) (t job rival : ℕ) (bytes : List ℕ) → Replied p start now old stood b t bytes
    → job_of b.outs t ≡ Some job → Took job bytes old new stood standing (Ok good)
    → rival_in (take_of b t good (Some job)) ≡ Some rival → Leaves rival (Stopped rival) now later
    → Follows p start later new standing (after_reply b t good (Some job)) Idle
follows-some true p start now later old new stood standing b t job rival bytes r is took some stopped = follows-rival p
    start now later old new stood standing b t job rival bytes r is took some stopped
follows-some false p start now later old new stood standing b t job rival bytes r is took some
    stopped = absurd (none-some rival some)

-- the ticket that is to be stopped is out
pub rival-is-out : (b : Book) (t job rival : ℕ) (there : ℕ → Bool) → IsBook b
    → ((s : ℕ) → there s ≡ (not (s == t) && is_out b.outs s)) → ticket_of (without t b.outs) job ≡ Some rival
    → there rival ≡ true
rival-is-out b t job rival there h outs other =
    let left = attempts-without (b.first + b.drawn) (length b.accounts) b.outs t h.outs in
    let is = ticket-job (b.first + b.drawn) (length b.accounts) (without t b.outs) job rival left other in
    outs rival ∙ sym (out-without (b.first + b.drawn) (length b.accounts) b.outs t rival h.outs)
    ∙ out-job (without t b.outs) rival ∙ ap (λ (o : Option ℕ). is_some o) is

-- a fact about Ok goes on
pub on-ok : {T E : Type 0} (r : Result T E) (P Q : Type 0) → (P → Q) → OnOk r P → OnOk r Q
on-ok (Ok x) P Q step h = step h
on-ok (Err e) P Q step h = h

-- an event came that the log has not yet
pub replied : (p : Plan) (start old now : CrewState) (jobs : JobsState) (standing : Standing) (b : Book) (t : ℕ)
    (bytes : List ℕ) → MustWait b → Leaves t (Reply t bytes) old now → Follows p start old jobs standing b Idle
    → Replied p start now jobs standing b t bytes
replied p start old now jobs standing b t bytes waits left
    f = record {
      before = old;
      log = f.log;
      tells = f.tells;
      left = left;
      holds = f.holds;
      books = f.books;
      full = windowed p b f.log f.books waits;
    }

replies-died : (p : Plan) (log : List Entry) (t : ℕ) → (read p.work (Died t ∷ log)).replies ≡ (read p.work log).replies
unfolding read
replies-died p log t = refl

died-by : (o : Option ℕ) (p : Plan) (start old now : CrewState) (jobs : JobsState) (standing : Standing) (b : Book)
    (t : ℕ) → job_of b.outs t ≡ o → MustWait b → Dies t old now → Follows p start old jobs standing b Idle
    → Follows p start now jobs standing (after_died b t o) Idle
died-by None p start old now jobs standing b t is waits dies f = record {
  log = Died t ∷ f.log;
  tells = tells-leaves p start old now b (after_stale b) f.log t (b.first + b.drawn) (length b.accounts) (Died t)
      f.tells dies.leaves f.books.is_book.outs (sym (without-none b.outs t is)) refl
      (faults-died p start old now b f.log t f.tells dies.rose);
  holds = holds-same p jobs standing f.log (Died t ∷ f.log) (replies-died p f.log t) f.holds;
  books = books-stale_died p b f.log t f.books (windowed p b f.log f.books waits) waits.unspent.fresh is;
}
died-by (Some job) p start old now jobs standing b t is waits dies f = record {
  log = Died t ∷ f.log;
  tells = tells-leaves p start old now b (after_bad b t job kinds.Died) f.log t (b.first + b.drawn) (length b.accounts)
      (Died t) f.tells dies.leaves f.books.is_book.outs refl refl
      (faults-died p start old now b f.log t f.tells dies.rose);
  holds = holds-same p jobs standing f.log (Died t ∷ f.log) (replies-died p f.log t) f.holds;
  books = books-died p b f.log t job f.books (windowed p b f.log f.books waits) is;
}

pub follows-died : (p : Plan) (start old now : CrewState) (jobs : JobsState) (standing : Standing) (b : Book) (t : ℕ)
    → MustWait b → Dies t old now → Follows p start old jobs standing b Idle
    → Follows p start now jobs standing (after_died b t (job_of b.outs t)) Idle
follows-died p start old now jobs standing b t waits dies f = died-by (job_of b.outs t) p start old now jobs standing b
    t refl waits dies f

-- a ticket was started and is to be fed
replies-started : (p : Plan) (log : List Entry) (t : ℕ)
    → (read p.work (Started t ∷ log)).replies ≡ (read p.work log).replies
unfolding read
replies-started p log t = refl

replies-start_failed : (p : Plan) (log : List Entry) (t : ℕ)
    → (read p.work (StartFailed t ∷ log)).replies ≡ (read p.work log).replies
unfolding read
replies-start_failed p log t = refl

pieces-started : (log : List Entry) (t s : ℕ) → pieces_in (Started t ∷ log) s ≡ pieces_in log s
unfolding pieces_in
pieces-started log t s = refl

pub feeds-started : (p : Plan) (start old now : CrewState) (jobs : JobsState) (standing : Standing) (b : Book) (job : ℕ)
    → MayStart b job → IsBook (after_started b job) → Joins (ticket b) old now
    → Follows p start old jobs standing b Idle → Feeds p start now jobs standing (after_started b job) (ticket b) []
feeds-started p start old now jobs standing b job wants kept joins f = record {
  log = Started (ticket b) ∷ f.log;
  tells = tells-started p start old now b f.log job f.tells joins;
  holds = holds-same p jobs standing f.log (Started (ticket b) ∷ f.log) (replies-started p f.log (ticket b)) f.holds;
  books = books-started p b f.log job f.books wants kept;
  fed = pieces-started f.log (ticket b) (ticket b) ∙ f.books.fresh (ticket b) (omega arith);
}

pub follows-start_failed : (p : Plan) (start old now : CrewState) (jobs : JobsState) (standing : Standing) (b : Book)
    (job : ℕ) → MayStart b job → IsBook (after_start_failed b job)
    → Fails (StartFailed (ticket b)) (old.issued + 1) old now → Follows p start old jobs standing b Idle
    → Follows p start now jobs standing (after_start_failed b job) Idle
follows-start_failed p start old now jobs standing b job wants kept fails f = record {
  log = StartFailed (ticket b) ∷ f.log;
  tells = tells-start_failed p start old now b f.log job f.tells fails;
  holds = holds-same p jobs standing f.log (StartFailed (ticket b) ∷ f.log) (replies-start_failed p f.log (ticket b))
      f.holds;
  books = books-start_failed p b f.log job f.books wants kept;
}

-- a ticket whose feed or seal failed is stopped
replies-failed : (p : Plan) (log : List Entry) (t : ℕ)
    → (read p.work (Stopped t ∷ FeedFailed t ∷ log)).replies ≡ (read p.work log).replies
unfolding read
replies-failed p log t = refl

none-known : (o : Option ℕ) → is_some o ≡ false → o ≡ None
none-known None h = refl
none-known (Some x) h = absurd (true≢false h)

out-none : (outs : List Attempt) (t : ℕ) → is_out outs t ≡ false → job_of outs t ≡ None
out-none outs t h = none-known (job_of outs t) (sym (out-job outs t) ∙ h)

pub follows-failed : (p : Plan) (start now later : CrewState) (jobs : JobsState) (standing : Standing) (b : Book)
    (t job : ℕ) → job_of b.outs t ≡ Some job → FeedFails p start now jobs standing b t → Leaves t (Stopped t) now later
    → Follows p start later jobs standing (after_bad b t job kinds.Feed) Idle
follows-failed p start now later jobs standing b t job is f stopped = record {
  log = Stopped t ∷ FeedFailed t ∷ f.log;
  tells = tells-failed p start f.before now later b f.log t job is f.books.is_book.outs f.tells f.fails stopped;
  holds = holds-same p jobs standing f.log (Stopped t ∷ FeedFailed t ∷ f.log) (replies-failed p f.log t) f.holds;
  books = books-failure_stopped p (after_bad b t job kinds.Feed) (FeedFailed t ∷ f.log) t
      (books-feed_failed p b f.log t job f.books is)
      (out-none (without t b.outs) t (out-without (b.first + b.drawn) (length b.accounts) b.outs t t
      f.books.is_book.outs ∙ ap (λ (x : Bool). not x && is_out b.outs t) (eq-eqb t t refl)));
}

-- a ticket that is out is below the next one
ticket-below : (n m : ℕ) (outs : List Attempt) (t job : ℕ) → AreAttempts n m outs → job_of outs t ≡ Some job → t < n
ticket-below n m [] t job h is = absurd (none-some job (sym (job-nil t) ∙ is))
ticket-below n m (a ∷ outs) t job h is = elim (cases_Bool (a.ticket == t)) [
  | inl here ↦ subst (λ (k : ℕ). k < n) (eqb-true a.ticket t here) h.0
  | inr apart ↦ ticket-below n m outs t job h.3 (sym
      (job-cons a outs t ∙ ap (λ (b : Bool). cond b (Some a.job) (job_of outs t)) apart) ∙ is)
]

-- one more piece of a list
pieces-split : (ps : List (List ℕ)) (i : ℕ) (piece : List ℕ) → slice_get ps i ≡ Some piece
    → (ps ≡ take i ps ++ piece ∷ drop (i + 1) ps) × (take (i + 1) ps ≡ take i ps ++ piece ∷ [])
pieces-split ps i piece is =
    let within = slice_get_within ps i piece is in
    let here = get_or_from_slice_get ps i piece [] is in
    grind (arith, common_steps, within, here)

replies-fed : (p : Plan) (log : List Entry) (t : ℕ) (piece : List ℕ)
    → (read p.work (Fed t piece ∷ log)).replies ≡ (read p.work log).replies
unfolding read
replies-fed p log t piece = refl

replies-sealed : (p : Plan) (log : List Entry) (t : ℕ)
    → (read p.work (Sealed t ∷ log)).replies ≡ (read p.work log).replies
unfolding read
replies-sealed p log t = refl

-- a piece was fed
pub feeds-fed : (p : Plan) (start now later : CrewState) (jobs after_jobs : JobsState)
    (standing standing_after : Standing) (b : Book) (t job i : ℕ) (piece : List ℕ) (ps : List (List ℕ))
    → job_of b.outs t ≡ Some job → ps ≡ jobs.work.pieces job → slice_get ps i ≡ Some piece
    → Stays jobs after_jobs standing standing_after → Notes (Fed t piece) now.issued now later
    → Feeds p start now jobs standing b t (take i ps) → Feeds p start later after_jobs standing_after b t (take (i + 1)
    ps)
feeds-fed p start now later jobs after_jobs standing standing_after b t job i piece ps is same at stays notes f =
    let split = pieces-split ps i piece at in
    let of_plan : p.work.pieces job ≡ ps = ap (λ (w : Work). w.pieces job) (sym f.holds.work) ∙ sym same in
    record {
      log = Fed t piece ∷ f.log;
      tells = tells-fed p start now later b f.log t piece f.tells notes;
      holds = holds-same p after_jobs standing_after f.log (Fed t piece ∷ f.log) (replies-fed p f.log t piece)
          (holds-stays p jobs after_jobs standing standing_after f.log stays f.holds);
      books = books-fed p b f.log t job piece (drop (i + 1) ps) f.books
          (ticket-below (b.first + b.drawn) (length b.accounts) b.outs t job f.books.is_book.outs is) is
          (of_plan ∙ split.0 ∙ ap (λ xs. xs ++ piece ∷ drop (i + 1) ps) (sym f.fed));
      fed = pieces-here f.log t piece ∙ ap (λ xs. xs ++ piece ∷ []) f.fed ∙ sym split.1;
    }

-- what a seal came to, once all pieces are fed
pub sealed-outcome : (r : Result (Unit {0}) CrewStop) (p : Plan) (start now later : CrewState)
    (jobs after_jobs : JobsState) (standing standing_after : Standing) (b : Book) (t job i : ℕ) (ps : List (List ℕ))
    → job_of b.outs t ≡ Some job → ps ≡ jobs.work.pieces job → length ps ≤ i
    → Stays jobs after_jobs standing standing_after → Sealed_by t now later r
    → Feeds p start now jobs standing b t (take i ps) → FedOutcome p start later after_jobs standing_after b t r
sealed-outcome (Ok _) p start now later jobs after_jobs standing standing_after b t job i ps is same far stays sealed
    f =
    let of_plan : p.work.pieces job ≡ ps = ap (λ (w : Work). w.pieces job) (sym f.holds.work) ∙ sym same in
    record {
      log = Sealed t ∷ f.log;
      tells = tells-sealed p start now later b f.log t f.tells sealed;
      holds = holds-same p after_jobs standing_after f.log (Sealed t ∷ f.log) (replies-sealed p f.log t)
          (holds-stays p jobs after_jobs standing standing_after f.log stays f.holds);
      books = books-sealed p b f.log t job f.books is (f.fed ∙ take_all i ps far ∙ sym of_plan);
    }
sealed-outcome (Err stops.Fault) p start now later jobs after_jobs standing standing_after b t job i ps is same far
    stays sealed f =
    record {
      before = now;
      log = f.log;
      tells = f.tells;
      fails = sealed;
      holds = holds-stays p jobs after_jobs standing
          standing_after f.log stays f.holds;
      books = f.books;
    }
sealed-outcome (Err stops.Memory) p start now later jobs after_jobs standing standing_after b t job i ps is same far
    stays sealed f = (
      take i ps,
      record {
        log = f.log;
        tells = subst (λ (s : CrewState). Tells p start s b f.log) (sym sealed) f.tells;
        holds = holds-stays p jobs after_jobs standing standing_after f.log stays f.holds;
        books = f.books;
        fed = f.fed;
      },
    )

-- no place is past the end of a longer list
pub past-none : (ps : List (List ℕ)) (i : ℕ) → slice_get ps i ≡ None → length ps ≤ i
past-none ps i is = elim (cases_lt i (length ps)) [
  | inl within ↦ absurd (none-some (get_or ps i []) (sym is ∙ slice_get-get_or ps i [] within))
  | inr far ↦ far
]

-- what a feed that stopped came to
pub fed-outcome : (stop : CrewStop) (p : Plan) (start now later : CrewState) (jobs after_jobs : JobsState)
    (standing standing_after : Standing) (b : Book) (t : ℕ) (piece : List ℕ) (pieces : List (List ℕ))
    → Stays jobs after_jobs standing standing_after → Fed_by t piece now later (Err stop)
    → Feeds p start now jobs standing b t pieces → FedOutcome p start later after_jobs standing_after b t (Err stop)
fed-outcome stops.Fault p start now later jobs after_jobs standing standing_after b t piece pieces stays fed f =
    record {
      before = now;
      log = f.log;
      tells = f.tells;
      fails = fed;
      holds = holds-stays p jobs after_jobs standing
          standing_after f.log stays f.holds;
      books = f.books;
    }
fed-outcome stops.Memory p start now later jobs after_jobs standing standing_after b t piece pieces stays fed f = (
  pieces,
  record {
    log = f.log;
    tells = subst (λ (s : CrewState). Tells p start s b f.log) (sym fed) f.tells;
    holds = holds-stays p jobs after_jobs standing standing_after f.log stays f.holds;
    books = f.books;
    fed = f.fed;
  },
)

-- a feed and a seal leave each ticket out or not
pub sealed-outs : (r : Result (Unit {0}) CrewStop) (now later : CrewState) (t s : ℕ) → Sealed_by t now later r
    → later.is_out s ≡ now.is_out s
sealed-outs (Ok _) now later t s sealed = sealed.out s
sealed-outs (Err stops.Fault) now later t s sealed = sealed.notes.out s
sealed-outs (Err stops.Memory) now later t s sealed = ap (λ (x : CrewState). x.is_out s) sealed

pub fed-outs : (stop : CrewStop) (now later : CrewState) (t s : ℕ) (piece : List ℕ)
    → Fed_by t piece now later (Err stop) → later.is_out s ≡ now.is_out s
fed-outs stops.Fault now later t s piece fed = fed.notes.out s
fed-outs stops.Memory now later t s piece fed = ap (λ (x : CrewState). x.is_out s) fed

-- a ticket was started: the crew has the book's tickets out
pub joined-outs : (old now : CrewState) (b : Book) (job : ℕ) → ((t : ℕ) → old.is_out t ≡ is_out b.outs t)
    → Joins (ticket b) old now → (t : ℕ) → now.is_out t ≡ is_out (after_started b job).outs t
joined-outs old now b job outs joins t = joins.out t ∙ ap (λ (x : Bool). t == ticket b || x) (outs t)
    ∙ joined-out b job t

-- what the calls inside a turn ask for
pub agrees-follows : (p : Plan) (start now : CrewState) (jobs : JobsState) (standing : Standing) (b : Book) (m : Moment)
    → Follows p start now jobs standing b m → Agrees now jobs b
agrees-follows p start now jobs standing b m f = record {
  count = f.books.matches.count ∙ ap (λ (w : Work). w.count) (sym f.holds.work);
  issued = f.tells.issued;
  outs = f.tells.outs;
  marks = λ job. f.holds.marks job ∙ sym (f.books.matches.dones job);
}
