-- A call that is broken off.
use Rattle.std.proofs.Common.{◌≡◌, ◌⊎◌, ℕ, ◌+◌, ◌*◌, ◌≤◌, inl, inr, List, [], ◌∷◌, Some, Err, Ok, Result, OnErr, length, refl, sym, ◌∙◌, ap, subst, arith}
use Rattle.crew.specs.Log.{Entry, told}
use Rattle.crew.specs.Log.Entry.{Reply}
use Rattle.crew.specs.Crew.{CrewState, Rests}
use Rattle.replay_core.specs.Attempts.{job_of, without}
use Rattle.replay_core.specs.Book.{Book, after_bad, after_started, after_stopped}
use Rattle.replay_core.specs.Kept.{IsBook}
use Rattle.replay_core.specs.Next.{MayStart, Turned}
use Rattle.replay_core.specs.declared.attempt.Attempt.{Attempt}
use Rattle.replay_core.specs.declared.bad.Kind.TheVariants.{Feed}
use Rattle.replay_core.proofs.Attempts.{length-without}
use Rattle.replay_core.proofs.Turned.{turned-started, turned-feed_failed}
use Rattle.replay_supervisor.specs.Jobs.{JobsState, Standing, Stays}
use Rattle.replay_supervisor.specs.Reading.{read, drawn_in, events_in}
use Rattle.replay_supervisor.specs.Steps.{Plan, Moment, IsLog, IsWindowed}
use Rattle.replay_supervisor.specs.Steps.Moment.{Idle}
use Rattle.replay_supervisor.specs.Follows.{Tells, Holds, Books, Follows, Feeds, Halts, Replied}
use Rattle.replay_supervisor.proofs.Follows.{told-more}

-- the bounds of a log, by its book
pub is-log : (p : Plan) (b : Book) (log : List Entry) (m : Moment) → Books p b log m → IsLog p log
is-log p b log m h = record {
  steps = h.steps;
  drawn = subst (λ (n : ℕ). drawn_in log ≤ n * (p.restarts + 2)) h.matches.count
      (subst (λ (r : ℕ). drawn_in log ≤ length b.accounts * (r + 2)) h.restarts
      (omega (arith, h.matches.drawn, h.is_book.bound)));
  events = subst (λ (n : ℕ). events_in log ≤ n * (p.restarts + 2) + 4096) h.matches.count
      (subst (λ (r : ℕ). events_in log ≤ length b.accounts * (r + 2) + 4096) h.restarts
      (omega (arith, h.events, h.is_book.bound, h.is_book.stale)));
}

unfoldable pub halts-of : (p : Plan) (start now : CrewState) (jobs : JobsState) (standing : Standing) (b : Book)
    (log : List Entry) (m : Moment) → Tells p start now b log → Holds p jobs standing log → Books p b log m
    → Halts p start now jobs standing b
halts-of p start now jobs standing b log m tells holds books = record {
  log = log;
  says = tells.says;
  issued = omega (arith, tells.issued, books.first, books.matches.drawn);
  later = tells.later;
  outs = books.matches.outs;
  is_log = is-log p b log m books;
  taken = (read p.work log).replies;
  stands = holds.stands;
  work = holds.work;
  marks = holds.marks;
  held = inl refl;
}

pub halts-same : (p : Plan) (start old now : CrewState) (jobs : JobsState) (standing : Standing) (b : Book) (m : Moment)
    → now ≡ old → Follows p start old jobs standing b m → Halts p start now jobs standing b
halts-same p start old now jobs standing b m same f = subst (λ (s : CrewState). Halts p start s jobs standing b)
    (sym same) (halts-of p start old jobs standing b f.log m f.tells f.holds f.books)

pub halts-rests : (p : Plan) (start old now : CrewState) (jobs : JobsState) (standing : Standing) (b : Book)
    (m : Moment) → Rests old now → Follows p start old jobs standing b m → Halts p start now jobs standing b
halts-rests p start old now jobs standing b m rests f = record {
  log = f.log;
  says = rests.log ∙ f.tells.says;
  issued = omega (arith, rests.issued, f.tells.issued, f.books.first, f.books.matches.drawn);
  later = omega (arith, f.tells.later, rests.faults);
  outs = f.books.matches.outs;
  is_log = is-log p b f.log m f.books;
  taken = (read p.work f.log).replies;
  stands = f.holds.stands;
  work = f.holds.work;
  marks = f.holds.marks;
  held = inl refl;
}

pub halts-feeds : (p : Plan) (start now : CrewState) (jobs : JobsState) (standing : Standing) (b : Book) (t : ℕ)
    (pieces : List (List ℕ)) → Feeds p start now jobs standing b t pieces → Halts p start now jobs standing b
halts-feeds p start now jobs standing b t pieces f = halts-of p start now jobs standing b f.log (Moment.Feeding t)
    f.tells f.holds f.books

-- the reply for which the jobs wanted memory is the newest entry
is-log-reply : (p : Plan) (b : Book) (log : List Entry) (t job : ℕ) (bytes : List ℕ) → Books p b log Idle
    → IsWindowed p log → job_of b.outs t ≡ Some job → IsLog p (Reply t bytes ∷ log)
unfolding drawn_in events_in
is-log-reply p b log t job bytes h full is =
    let before = is-log p b log Idle h in
    record {
      steps = (full, h.steps);
      drawn = omega (arith, before.drawn);
      events = subst (λ (n : ℕ). 1 + events_in log ≤ n * (p.restarts + 2) + 4096) h.matches.count
          (subst (λ (r : ℕ). 1 + events_in log ≤ length b.accounts * (r + 2) + 4096) h.restarts
          (omega (arith, h.events, h.is_book.bound, h.is_book.stale, length-without b.outs t job is)));
    }

outs-reply : (p : Plan) (log : List Entry) (t : ℕ) (bytes : List ℕ) (outs : List Attempt)
    → outs ≡ (read p.work log).outs → without t outs ≡ (read p.work (Reply t bytes ∷ log)).outs
unfolding read
outs-reply p log t bytes outs same = ap (λ xs. without t xs) same

drawn-reply : (t : ℕ) (bytes : List ℕ) (log : List Entry) → drawn_in (Reply t bytes ∷ log) ≡ drawn_in log
unfolding drawn_in
drawn-reply t bytes log = omega arith

pub halts-take : (p : Plan) (start now : CrewState) (old new : JobsState) (stood standing : Standing) (b : Book)
    (t job : ℕ) (bytes : List ℕ) → Replied p start now old stood b t bytes → job_of b.outs t ≡ Some job
    → Stays old new stood standing → Halts p start now new standing (after_stopped b t)
halts-take p start now old new stood standing b t job bytes r is stays = record {
  log = Reply t bytes ∷ r.log;
  says = r.left.log ∙ ap (λ l. told l (Reply t bytes ∷ [])) r.tells.says ∙ told-more start.log (Reply t bytes) r.log;
  issued = omega (
    arith,
    r.left.issued,
    r.tells.issued,
    r.books.first,
    r.books.matches.drawn,
    drawn-reply t bytes
        r.log,
  );
  later = omega (arith, r.tells.later, r.left.faults);
  outs = outs-reply p r.log t bytes b.outs r.books.matches.outs;
  is_log = is-log-reply p b r.log t job bytes r.books r.full is;
  taken = (read p.work r.log).replies;
  stands = stays.list (read p.work r.log).replies r.holds.stands;
  work = ap (λ (s : JobsState). s.work) stays.state ∙ r.holds.work;
  marks = λ j. ap (λ (s : JobsState). s.has_taken j) stays.state ∙ r.holds.marks j;
  held = inr refl;
}

-- a fact about Err goes on
pub on-err : {T E : Type 0} (r : Result T E) (P Q : Type 0) → (P → Q) → OnErr r P → OnErr r Q
on-err (Ok x) P Q step h = h
on-err (Err e) P Q step h = step h

-- a ticket was started and then fed, or went bad
pub turned-then : (b x y : Book) (t job : ℕ) → MayStart b job → x ≡ after_started b job → IsBook x
    → job_of x.outs t ≡ Some job → (y ≡ x) ⊎ (y ≡ after_bad x t job Feed) → Turned b y
turned-then b x y t job f same kept is moved = elim moved [
  | inl fed ↦ subst (λ (z : Book). Turned b z) (sym (fed ∙ same))
      (turned-started b job f (subst (λ (z : Book). IsBook z) same kept))
  | inr failed ↦ subst (λ (z : Book). Turned b z) (sym (failed ∙ ap (λ (z : Book). after_bad z t job Feed) same))
      (turned-feed_failed b t job f (subst (λ (z : Book). IsBook z) same kept)
      (ap (λ (z : Book). job_of z.outs t) (sym same) ∙ is))
]
