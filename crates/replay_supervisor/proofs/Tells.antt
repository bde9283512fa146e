-- The crew goes on telling what the book keeps, and the jobs what the log accepts.
use Rattle.std.proofs.Common.{◌≡◌, ℕ, ◌+◌, ◌≤◌, ◌<◌, ◌==◌, ◌&&◌, ◌||◌, not, Bool, true, false, cond, inl, inr, List, [], ◌∷◌, ◌++◌, Option, None, Some, is_some, length, set, get_or-set_same, get_or-set_other, refl, sym, ◌∙◌, ap, subst, arith}
use Rattle.std.proofs.lemmas.Bool.{cases_eq, ne_eqb, eq-eqb}
use Rattle.mon_io.specs.Faults.{Rose}
use Rattle.crew.specs.Log.{Entry, told}
use Rattle.crew.specs.Log.Entry.{Started, StartFailed, Fed, FeedFailed, Sealed, Reply, Died, Stopped}
use Rattle.crew.specs.Crew.{CrewState, Notes, Fails, Leaves, Joins, Closes}
use Rattle.replay_core.specs.Attempts.{attempt, job_of, is_out, without}
use Rattle.replay_core.specs.Book.{Book, ticket, more, after_bad, after_started, after_start_failed}
use Rattle.replay_core.specs.Kept.{AreAttempts}
use Rattle.replay_core.specs.declared.bad.Bad.{Bad}
use Rattle.replay_core.specs.declared.bad.Kind.TheVariants as kinds
use Rattle.replay_core.proofs.Attempts.{out-push, out-without}
use Rattle.replay_supervisor.specs.Jobs.{JobsState, Places, Standing, Stays, TookOne}
use Rattle.replay_supervisor.specs.Reading.{read, accepted, bad_in, is_job, job_started}
use Rattle.replay_supervisor.specs.Steps.{Plan}
use Rattle.replay_supervisor.specs.Counted.{RoseBy, crew_faults}
use Rattle.replay_supervisor.specs.Follows.{Tells, Holds}
use Rattle.replay_supervisor.proofs.Follows.{told-more}
use Rattle.replay_supervisor.proofs.Matches.{replies-length}

-- counts of faults
pub rose-same : (n a b c : ℕ) → RoseBy n a b → b ≤ c → RoseBy n a c
rose-same n a b c h later = omega (arith, h, later)

pub rose-more : (n a b c : ℕ) → RoseBy n a b → Rose b c → RoseBy (n + 1) a c
rose-more n a b c h rose = omega (arith, h, rose)

-- a bad attempt with a fault of the crew behind it
pub rose-start : (test : Bool) (bad : Bad) (a b c : ℕ) → RoseBy (crew_faults bad) a b → Rose b c
    → RoseBy (crew_faults (cond test (more kinds.Start bad) bad)) a c
rose-start true bad a b c h rose = omega (arith, h, rose)
rose-start false bad a b c h rose = omega (arith, h, rose)

pub rose-feed : (test : Bool) (bad : Bad) (a b c : ℕ) → RoseBy (crew_faults bad) a b → Rose b c
    → RoseBy (crew_faults (cond test (more kinds.Feed bad) bad)) a c
rose-feed true bad a b c h rose = omega (arith, h, rose)
rose-feed false bad a b c h rose = omega (arith, h, rose)

pub rose-died : (test : Bool) (bad : Bad) (a b c : ℕ) → RoseBy (crew_faults bad) a b → Rose b c
    → RoseBy (crew_faults (cond test (more kinds.Died bad) bad)) a c
rose-died true bad a b c h rose = omega (arith, h, rose)
rose-died false bad a b c h rose = omega (arith, h, rose)

pub rose-reply : (test : Bool) (bad : Bad) (a b c : ℕ) → RoseBy (crew_faults bad) a b → b ≤ c
    → RoseBy (crew_faults (cond test (more kinds.Reply bad) bad)) a c
rose-reply true bad a b c h later = omega (arith, h, later)
rose-reply false bad a b c h later = omega (arith, h, later)

eqb-sym : (a b : ℕ) → (a == b) ≡ (b == a)
eqb-sym a b = elim (cases_eq a b) [
  | inl same ↦ eq-eqb a b same ∙ sym (eq-eqb b a (sym same))
  | inr apart ↦ ne_eqb a b apart ∙ sym (ne_eqb b a (λ e. apart (sym e)))
]

or-swap : (a b : Bool) → (a || b) ≡ (b || a)
or-swap true true = refl
or-swap true false = refl
or-swap false true = refl
or-swap false false = refl

-- a ticket that left
pub tells-leaves : (p : Plan) (start old new : CrewState) (b after : Book) (log : List Entry) (t n m : ℕ)
    (entry : Entry) → Tells p start old b log → Leaves t entry old new → AreAttempts n m b.outs
    → after.outs ≡ without t b.outs → ticket after ≡ ticket b
    → ((job : ℕ) → RoseBy (crew_faults (bad_in p.work (entry ∷ log) job)) start.faults new.faults)
    → Tells p start new after (entry ∷ log)
tells-leaves p start old new b after log t n m entry h left attempts outs same faults = record {
  says = left.log ∙ ap (λ l. told l (entry ∷ [])) h.says ∙ told-more start.log entry log;
  issued = left.issued ∙ h.issued ∙ sym same;
  outs = λ s. left.out s ∙ ap (λ (x : Bool). not (s == t) && x) (h.outs s) ∙ sym (out-without n m b.outs t s attempts)
      ∙ ap (λ xs. is_out xs s) (sym outs);
  later = omega (arith, h.later, left.faults);
  faults = faults;
}

pub tells-started : (p : Plan) (start old new : CrewState) (b : Book) (log : List Entry) (job : ℕ)
    → Tells p start old b log → Joins (ticket b) old new
    → Tells p start new (after_started b job) (Started (ticket b) ∷ log)
unfolding bad_in
tells-started p start old new b log job h joins = record {
  says = joins.log ∙ ap (λ l. told l (Started (ticket b) ∷ [])) h.says ∙ told-more start.log (Started (ticket b)) log;
  issued = joins.issued ∙ omega (arith, h.issued);
  outs = λ s. joins.out s ∙ ap (λ (x : Bool). s == ticket b || x) (h.outs s)
      ∙ ap (λ (x : Bool). x || is_out b.outs s) (eqb-sym s (ticket b)) ∙ or-swap (ticket b == s) (is_out b.outs s)
      ∙ sym (out-push b.outs (ticket b) job s);
  later = omega (arith, h.later, joins.faults);
  faults = λ j. rose-same (crew_faults (bad_in p.work log j)) start.faults old.faults new.faults (h.faults j)
      joins.faults;
}

pub tells-start_failed : (p : Plan) (start old new : CrewState) (b : Book) (log : List Entry) (job : ℕ)
    → Tells p start old b log → Fails (StartFailed (ticket b)) (old.issued + 1) old new
    → Tells p start new (after_start_failed b job) (StartFailed (ticket b) ∷ log)
unfolding bad_in
tells-start_failed p start old new b log job h fails = record {
  says = fails.notes.log ∙ ap (λ l. told l (StartFailed (ticket b) ∷ [])) h.says
      ∙ told-more start.log (StartFailed (ticket b)) log;
  issued = fails.notes.issued ∙ omega (arith, h.issued);
  outs = λ s. fails.notes.out s ∙ h.outs s;
  later = omega (arith, h.later, fails.notes.faults);
  faults = λ j. rose-start (job_started p.work (read p.work log) == j) (bad_in p.work log j) start.faults old.faults
      new.faults (h.faults j) fails.rose;
}

pub tells-fed : (p : Plan) (start old new : CrewState) (b : Book) (log : List Entry) (t : ℕ) (piece : List ℕ)
    → Tells p start old b log → Notes (Fed t piece) old.issued old new → Tells p start new b (Fed t piece ∷ log)
unfolding bad_in
tells-fed p start old new b log t piece h notes = record {
  says = notes.log ∙ ap (λ l. told l (Fed t piece ∷ [])) h.says ∙ told-more start.log (Fed t piece) log;
  issued = notes.issued ∙ h.issued;
  outs = λ s. notes.out s ∙ h.outs s;
  later = omega (arith, h.later, notes.faults);
  faults = λ j. rose-same (crew_faults (bad_in p.work log j)) start.faults old.faults new.faults (h.faults j)
      notes.faults;
}

pub tells-sealed : (p : Plan) (start old new : CrewState) (b : Book) (log : List Entry) (t : ℕ)
    → Tells p start old b log → Closes t old new → Tells p start new b (Sealed t ∷ log)
unfolding bad_in
tells-sealed p start old new b log t h closes = record {
  says = closes.log ∙ ap (λ l. told l (Sealed t ∷ [])) h.says ∙ told-more start.log (Sealed t) log;
  issued = closes.issued ∙ h.issued;
  outs = λ s. closes.out s ∙ h.outs s;
  later = omega (arith, h.later, closes.faults);
  faults = λ j. rose-same (crew_faults (bad_in p.work log j)) start.faults old.faults new.faults (h.faults j)
      closes.faults;
}

-- the faults of an event
pub faults-died : (p : Plan) (start old new : CrewState) (b : Book) (log : List Entry) (t : ℕ) → Tells p start old b log
    → Rose old.faults new.faults → (job : ℕ) → RoseBy (crew_faults
    (bad_in p.work (Died t ∷ log) job)) start.faults new.faults
unfolding bad_in
faults-died p start old new b log t h rose j = rose-died (is_job (job_of (read p.work log).outs t) j)
    (bad_in p.work log j) start.faults old.faults new.faults (h.faults j) rose

pub faults-reply : (p : Plan) (start old new : CrewState) (b : Book) (log : List Entry) (t : ℕ) (bytes : List ℕ)
    → Tells p start old b log → old.faults ≤ new.faults → (job : ℕ)
    → RoseBy (crew_faults (bad_in p.work (Reply t bytes ∷ log) job)) start.faults new.faults
unfolding bad_in
faults-reply p start old new b log t bytes h later j = rose-reply
    (is_job (job_of (read p.work log).outs t) j && not (p.work.is_good j bytes)) (bad_in p.work log j) start.faults
    old.faults new.faults (h.faults j) later

pub faults-stopped : (p : Plan) (start old new : CrewState) (b : Book) (log : List Entry) (t : ℕ)
    → Tells p start old b log → old.faults ≤ new.faults → (job : ℕ)
    → RoseBy (crew_faults (bad_in p.work (Stopped t ∷ log) job)) start.faults new.faults
unfolding bad_in
faults-stopped p start old new b log t h later j = rose-same (crew_faults (bad_in p.work log j)) start.faults old.faults
    new.faults (h.faults j) later

-- the jobs hold what the log accepts, where it accepts no more, or one more
pub holds-same : (p : Plan) (jobs : JobsState) (standing : Standing) (log more_log : List Entry)
    → (read p.work more_log).replies ≡ (read p.work log).replies → Holds p jobs standing log
    → Holds p jobs standing more_log
holds-same p jobs standing log more_log same h = record {
  work = h.work;
  marks = λ j. h.marks j ∙ ap (λ (rs : Places). is_some (accepted (record { outs = []; replies = rs }) j)) (sym same);
  stands = subst (λ (rs : Places). standing rs) (sym same) h.stands;
}

pub holds-stays : (p : Plan) (old new : JobsState) (stood standing : Standing) (log : List Entry)
    → Stays old new stood standing → Holds p old stood log → Holds p new standing log
holds-stays p old new stood standing log stays h = record {
  work = ap (λ (s : JobsState). s.work) stays.state ∙ h.work;
  marks = λ j. ap (λ (s : JobsState). s.has_taken j) stays.state ∙ h.marks j;
  stands = stays.list (read p.work log).replies h.stands;
}

pub holds-took : (p : Plan) (old new : JobsState) (stood standing : Standing) (log more_log : List Entry) (job : ℕ)
    (bytes : List ℕ) → job < p.work.count → (read p.work more_log).replies ≡ set (read p.work log).replies job (Some
    bytes) → TookOne job bytes old new stood standing → Holds p old stood log → Holds p new standing more_log
holds-took p old new stood standing log more_log job bytes known same took h =
    let there : job < length (read p.work log).replies = omega (arith, known, replies-length p.work log) in
    record {
      work = took.work ∙ h.work;
      marks = λ j. took.marks j ∙ elim (cases_eq j job) [
        | inl here ↦ ap (λ (x : Bool). x || old.has_taken j) (eq-eqb j job here)
            ∙ ap (λ (o : Option (List ℕ)). is_some o) (sym
            (get_or-set_same (read p.work log).replies job (Some bytes) None there))
            ∙ ap (λ (k : ℕ). is_some (accepted
            (record { outs = []; replies = set (read p.work log).replies job (Some bytes) }) k)) (sym here)
            ∙ ap (λ (rs : Places). is_some (accepted (record { outs = []; replies = rs }) j)) (sym same)
        | inr apart ↦ ap (λ (x : Bool). x || old.has_taken j) (ne_eqb j job apart) ∙ h.marks j
            ∙ ap (λ (o : Option (List ℕ)). is_some o) (sym
            (get_or-set_other (read p.work log).replies job j (Some bytes) None apart))
            ∙ ap (λ (rs : Places). is_some (accepted (record { outs = []; replies = rs }) j)) (sym same)
      ];
      stands = subst (λ (rs : Places). standing rs) (sym same) (took.list (read p.work log).replies h.stands);
    }

-- a ticket whose feed failed, and that is stopped then
pub tells-failed : (p : Plan) (start before now later : CrewState) (b : Book) (log : List Entry) (t job : ℕ)
    → job_of b.outs t ≡ Some job → AreAttempts (b.first + b.drawn) (length b.accounts) b.outs
    → Tells p start before b log → Fails (FeedFailed t) before.issued before now → Leaves t (Stopped t) now later
    → Tells p start later (after_bad b t job kinds.Feed) (Stopped t ∷ FeedFailed t ∷ log)
unfolding bad_in
tells-failed p start before now later b log t job is attempts h fails stopped = record {
  says = stopped.log ∙ ap (λ l. told l (Stopped t ∷ []))
      (fails.notes.log ∙ ap (λ l. told l (FeedFailed t ∷ [])) h.says ∙ told-more start.log (FeedFailed t) log)
      ∙ told-more start.log (Stopped t) (FeedFailed t ∷ log);
  issued = stopped.issued ∙ fails.notes.issued ∙ h.issued;
  outs = λ s. stopped.out s ∙ ap (λ (x : Bool). not (s == t) && x) (fails.notes.out s ∙ h.outs s)
      ∙ sym (out-without (b.first + b.drawn) (length b.accounts) b.outs t s attempts);
  later = omega (arith, h.later, fails.notes.faults, stopped.faults);
  faults = λ j. rose-same (crew_faults (cond (is_job (job_of (read p.work log).outs t) j)
      (more kinds.Feed (bad_in p.work log j)) (bad_in p.work log j))) start.faults now.faults later.faults
      (rose-feed (is_job (job_of (read p.work log).outs t) j) (bad_in p.work log j) start.faults before.faults
      now.faults (h.faults j) fails.rose) stopped.faults;
}

-- a ticket more that is out
pub joined-out : (b : Book) (job s : ℕ) → (s == ticket b || is_out b.outs s) ≡ is_out (b.outs
    ++ attempt (ticket b) job ∷ []) s
joined-out b job s = ap (λ (x : Bool). x || is_out b.outs s) (eqb-sym s (ticket b))
    ∙ or-swap (ticket b == s) (is_out b.outs s) ∙ sym (out-push b.outs (ticket b) job s)
