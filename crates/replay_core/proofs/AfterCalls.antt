-- What a book is after a list of lawful calls.
use Rattle.std.proofs.Common.{◌≡◌, ℕ, ◌+◌, ◌<◌, ◌==◌, Bool, true, false, cond, inl, inr, List, [], ◌∷◌, Option, None, Some, length, refl, sym, ◌∙◌, ap, subst, arith}
use Rattle.std.proofs.Math.ListN.{length-replicate}
use Rattle.std.proofs.lemmas.Bool.{cases_Bool, eq-eqb, eqb-true, true≢false}
use Rattle.replay_core.specs.Attempts.{job_of, without}
use Rattle.replay_core.specs.Book.{Book, new_book, new_account, account_at, account, is_done, bad_of, with_account, count_drawn, count_bad, is_now_done, after_started, after_start_failed, after_bad, after_stale, after_first, after_stopped, after_feed_failed, after_died, after_reply}
use Rattle.replay_core.specs.Calls.{Call, IsLawful, after_call, after, drawn_in, outs_in, outs_after_reply, is_job, more_if, bad_in, firsts_in, stale_in, has_stopped, is_none, Agrees, AreLimits, LawOfCalls}
use Rattle.replay_core.specs.Calls.Call.{Started, StartFailed, FeedFailed, Died, Reply, Stopped}
use Rattle.replay_core.specs.Kept.{IsBook}
use Rattle.replay_core.specs.declared.account.Account.{Account}
use Rattle.replay_core.specs.declared.bad.Kind.{Kind}
use Rattle.replay_core.specs.declared.bad.Kind.TheVariants as kinds
use Rattle.replay_core.proofs.Attempts.{job-known, out-known, without-none}
use Rattle.replay_core.proofs.Books.{account-here, account-other, length-with, part-kept}
use Rattle.replay_core.proofs.Starts.{start-facts}
use Rattle.replay_core.proofs.Kept.{fresh-at, new-kept, started-kept, start_failed-kept, bad-kept, stale-kept, stopped-kept, reply-kept, undone}

-- the account of each job, where that of one job changed
account-if : (accounts : List Account) (job j : ℕ) (change : Account → Account) → job < length accounts
    → account_at (with_account accounts job change) j ≡ cond (job == j) (change (account_at accounts j))
    (account_at accounts j)
account-if accounts job j change known = elim (cases_Bool (job == j)) [
  | inl here ↦ rw here (subst (λ (k : ℕ). account_at (with_account accounts job change) k ≡ change
      (account_at accounts k)) (eqb-true job j here) (account-here accounts job change known))
  | inr apart ↦ rw apart (account-other accounts job j change
      (λ same. true≢false (sym (eq-eqb job j (sym same)) ∙ apart)))
]

bad-more : (accounts : List Account) (job j : ℕ) (kind : Kind) → job < length accounts
    → (account_at (with_account accounts job (count_bad kind)) j).bad ≡ more_if (job == j) kind
    (account_at accounts j).bad
bad-more accounts job j kind known =
    ap (λ (a : Account). a.bad) (account-if accounts job j (count_bad kind) known)
    ∙ (elim (job == j) as (λ b. (cond b (count_bad kind (account_at accounts j)) (account_at accounts j)).bad ≡ more_if
    b kind (account_at accounts j).bad) [ true ↦ refl | false ↦ refl ])

-- a start
agrees-started : (first jobs window restarts : ℕ) (before : List Call) (b : Book) (job : ℕ)
    → Agrees first jobs window restarts before b → IsLawful b (Started job)
    → Agrees first jobs window restarts (Started job ∷ before) (after_started b job)
unfolding drawn_in outs_in bad_in firsts_in stale_in has_stopped
agrees-started first jobs window restarts before b job h lawful =
    let known = (start-facts b job lawful.0).facts.known in
    record {
      first_is = h.first_is;
      window_is = h.window_is;
      restarts_is = h.restarts_is;
      jobs_is = length-with b.accounts job count_drawn ∙ h.jobs_is;
      drawn = omega (arith, h.drawn);
      outs = rw (h.outs, h.first_is, h.drawn) refl;
      bads = λ j. part-kept (λ (a : Account). a.bad) b.accounts job count_drawn (λ a. refl) known j ∙ h.bads j;
      firsts = λ j.
          let same = ap (λ (x : Bool). cond {A = ℕ} x 1 0) (part-kept (λ (a : Account). a.done) b.accounts job
          count_drawn (λ a. refl) known j) in
          omega (arith, h.firsts j, same);
      stale = omega (arith, h.stale);
      stopping = h.stopping;
      is_book = started-kept b job lawful.0 lawful.1 h.is_book;
    }

agrees-start_failed : (first jobs window restarts : ℕ) (before : List Call) (b : Book) (job : ℕ)
    → Agrees first jobs window restarts before b → IsLawful b (StartFailed job)
    → Agrees first jobs window restarts (StartFailed job ∷ before) (after_start_failed b job)
unfolding drawn_in outs_in bad_in firsts_in stale_in has_stopped
agrees-start_failed first jobs window restarts before b job h lawful =
    let known = (start-facts b job lawful.0).facts.known in
    let change = λ (a : Account). count_bad kinds.Start (count_drawn a) in
    record {
      first_is = h.first_is;
      window_is = h.window_is;
      restarts_is = h.restarts_is;
      jobs_is = length-with b.accounts job change ∙ h.jobs_is;
      drawn = omega (arith, h.drawn);
      outs = h.outs;
      bads = λ j.
          ap (λ (a : Account). a.bad) (account-if b.accounts job j change known)
          ∙ (elim (job == j) as (λ x. (cond x (change (account b j)) (account b j)).bad ≡ more_if x kinds.Start
          (bad_of b j)) [ true ↦ refl | false ↦ refl ])
          ∙ ap (more_if (job == j) kinds.Start) (h.bads j);
      firsts = λ j.
          let same = ap (λ (x : Bool). cond {A = ℕ} x 1 0) (part-kept (λ (a : Account). a.done) b.accounts job change
          (λ a. refl) known j) in
          omega (arith, h.firsts j, same);
      stale = omega (arith, h.stale);
      stopping = h.stopping;
      is_book = start_failed-kept b job lawful.0 lawful.1 h.is_book;
    }

-- a call by which an attempt that is out is bad
record IsBadCall (first t : ℕ) (kind : Kind) (before : List Call) (call : Call) : Type 0 where
  drawn : drawn_in (call ∷ before) ≡ drawn_in before
  outs : (job : ℕ) → job_of (outs_in first before) t ≡ Some job
      → outs_in first (call ∷ before) ≡ without t (outs_in first before)
  bads : (j : ℕ) → bad_in first (call ∷ before) j ≡ more_if (is_job (job_of (outs_in first before) t) j) kind
      (bad_in first before j)
  firsts : (j : ℕ) → firsts_in first (call ∷ before) j ≡ firsts_in first before j
  stale : (job : ℕ) → job_of (outs_in first before) t ≡ Some job
      → stale_in first (call ∷ before) ≡ stale_in first before
  stopping : has_stopped (call ∷ before) ≡ has_stopped before

agrees-bad : (first jobs window restarts : ℕ) (before : List Call) (b : Book) (call : Call) (t job : ℕ) (kind : Kind)
    → Agrees first jobs window restarts before b → IsBadCall first t kind before call → job_of b.outs t ≡ Some job
    → Agrees first jobs window restarts (call ∷ before) (after_bad b t job kind)
agrees-bad first jobs window restarts before b call t job kind h is_call is =
    let known = job-known _ _ b.outs t job h.is_book.outs is in
    let told : job_of (outs_in first before) t ≡ Some job = ap (λ outs. job_of outs t) (sym h.outs) ∙ is in
    record {
      first_is = h.first_is;
      window_is = h.window_is;
      restarts_is = h.restarts_is;
      jobs_is = length-with b.accounts job (count_bad kind) ∙ h.jobs_is;
      drawn = h.drawn ∙ sym is_call.drawn;
      outs = ap (without t) h.outs ∙ sym (is_call.outs job told);
      bads = λ j.
          bad-more b.accounts job j kind known ∙ ap (more_if (job == j) kind) (h.bads j)
          ∙ ap (λ o. more_if (is_job o j) kind (bad_in first before j)) (sym told) ∙ sym (is_call.bads j);
      firsts = λ j.
          let same = ap (λ (x : Bool). cond {A = ℕ} x 1 0) (part-kept (λ (a : Account). a.done) b.accounts job
          (count_bad kind) (λ a. refl) known j) in
          omega (arith, is_call.firsts j, h.firsts j, same);
      stale = h.stale ∙ sym (is_call.stale job told);
      stopping = h.stopping ∙ sym is_call.stopping;
      is_book = bad-kept b t job kind is h.is_book;
    }

-- a call that is a stale event
record IsStaleCall (first t : ℕ) (before : List Call) (call : Call) : Type 0 where
  drawn : drawn_in (call ∷ before) ≡ drawn_in before
  outs : job_of (outs_in first before) t ≡ None → outs_in first (call ∷ before) ≡ outs_in first before
  bads : job_of (outs_in first before) t ≡ None → (j : ℕ) → bad_in first (call ∷ before) j ≡ bad_in first before j
  firsts : job_of (outs_in first before) t ≡ None → (j : ℕ)
      → firsts_in first (call ∷ before) j ≡ firsts_in first before j
  stale : job_of (outs_in first before) t ≡ None → stale_in first (call ∷ before) ≡ stale_in first before + 1
  stopping : has_stopped (call ∷ before) ≡ has_stopped before

agrees-stale : (first jobs window restarts : ℕ) (before : List Call) (b : Book) (call : Call) (t : ℕ)
    → Agrees first jobs window restarts before b → IsStaleCall first t before call → b.stale < 4096
    → job_of b.outs t ≡ None → Agrees first jobs window restarts (call ∷ before) (after_stale b)
agrees-stale first jobs window restarts before b call t h is_call fresh is =
    let told : job_of (outs_in first before) t ≡ None = ap (λ outs. job_of outs t) (sym h.outs) ∙ is in
    record {
      first_is = h.first_is;
      window_is = h.window_is;
      restarts_is = h.restarts_is;
      jobs_is = h.jobs_is;
      drawn = h.drawn ∙ sym is_call.drawn;
      outs = h.outs ∙ sym (is_call.outs told);
      bads = λ j. h.bads j ∙ sym (is_call.bads told j);
      firsts = λ j. is_call.firsts told j ∙ h.firsts j;
      stale = omega (arith, h.stale, is_call.stale told);
      stopping = h.stopping ∙ sym is_call.stopping;
      is_book = stale-kept b fresh h.is_book;
    }

-- a first good reply
agrees-first : (first jobs window restarts : ℕ) (before : List Call) (b : Book) (t job : ℕ)
    → Agrees first jobs window restarts before b → b.stale < 4096 → job_of b.outs t ≡ Some job
    → Agrees first jobs window restarts (Reply t true ∷ before) (after_first b t job)
unfolding drawn_in outs_in bad_in firsts_in stale_in has_stopped
agrees-first first jobs window restarts before b t job h fresh is =
    let known = job-known _ _ b.outs t job h.is_book.outs is in
    let told : job_of (outs_in first before) t ≡ Some job = ap (λ outs. job_of outs t) (sym h.outs) ∙ is in
    record {
      first_is = h.first_is;
      window_is = h.window_is;
      restarts_is = h.restarts_is;
      jobs_is = length-with b.accounts job is_now_done ∙ h.jobs_is;
      drawn = omega (arith, h.drawn);
      outs = ap (λ o. outs_after_reply b.outs t true o) (sym is)
          ∙ ap (λ outs. outs_after_reply outs t true (job_of outs t)) h.outs;
      bads = λ j. part-kept (λ (a : Account). a.bad) b.accounts job is_now_done (λ a. refl) known j ∙ h.bads j;
      firsts = λ j.
          let counted : cond {A = ℕ} (is_job (job_of (outs_in first before) t) j) 1 0 ≡ cond (job == j) 1
          0 = ap (λ o. cond {A = ℕ} (is_job o j) 1 0) told in
          let after_it = ap (λ (a : Account). cond {A = ℕ} a.done 1 0)
          (account-if b.accounts job j is_now_done known) in
          elim (cases_Bool (job == j)) [
            | inl here ↦
                let free = ap (λ (x : Bool). cond {A = ℕ} x 1 0) (ap (is_done b) (sym (eqb-true job j here))
                ∙ undone b t job h.is_book is) in
                let new = after_it ∙ ap (λ (x : Bool). cond {A = ℕ}
                (cond x (is_now_done (account b j)) (account b j)).done 1 0) here in
                let add = ap (λ (x : Bool). cond {A = ℕ} x 1 0) here in
                omega (arith, counted, new, add, free, h.firsts j)
            | inr apart ↦
                let new = after_it ∙ ap (λ (x : Bool). cond {A = ℕ}
                (cond x (is_now_done (account b j)) (account b j)).done 1 0) apart in
                let add = ap (λ (x : Bool). cond {A = ℕ} x 1 0) apart in
                omega (arith, counted, new, add, h.firsts j)
          ];
      stale = h.stale ∙ omega (arith, ap (λ o. cond {A = ℕ} (is_none o) 1 0) told);
      stopping = h.stopping;
      is_book = subst (λ o. IsBook (after_reply b t true o)) is
          (reply-kept b t true (job_of b.outs t) refl fresh h.is_book);
    }

-- a stop
agrees-stopped : (first jobs window restarts : ℕ) (before : List Call) (b : Book) (t : ℕ)
    → Agrees first jobs window restarts before b → IsLawful b (Stopped t)
    → Agrees first jobs window restarts (Stopped t ∷ before) (after_stopped b t)
unfolding drawn_in outs_in bad_in firsts_in stale_in has_stopped
agrees-stopped first jobs window restarts before b t h lawful =
    let is = out-known b.outs t lawful in
    record {
      first_is = h.first_is;
      window_is = h.window_is;
      restarts_is = h.restarts_is;
      jobs_is = h.jobs_is;
      drawn = omega (arith, h.drawn);
      outs = ap (without t) h.outs;
      bads = h.bads;
      firsts = λ j. omega (arith, h.firsts j);
      stale = omega (arith, h.stale);
      stopping = refl;
      is_book = stopped-kept b t is.0 is.1 h.is_book;
    }

-- each call that names a ticket, by the ticket's job
agrees-feed_failed : (first jobs window restarts : ℕ) (before : List Call) (b : Book) (t : ℕ)
    → Agrees first jobs window restarts before b → IsLawful b (FeedFailed t)
    → Agrees first jobs window restarts (FeedFailed t ∷ before) (after_call b (FeedFailed t))
unfolding drawn_in outs_in bad_in firsts_in stale_in has_stopped
agrees-feed_failed first jobs window restarts before b t h lawful =
    let is = out-known b.outs t lawful in
    let call : IsBadCall first t kinds.Feed before (FeedFailed t) = record {
      drawn = omega arith;
      outs = λ _ _. refl;
      bads = λ _. refl;
      firsts = λ _. omega arith;
      stale = λ _ _. omega arith;
      stopping = refl;
    } in
    subst (λ o. Agrees first jobs window restarts (FeedFailed t ∷ before) (after_feed_failed b t o)) (sym is.1)
    (agrees-bad first jobs window restarts before b (FeedFailed t) t is.0 kinds.Feed h call is.1)

agrees-died : (o : Option ℕ) (first jobs window restarts : ℕ) (before : List Call) (b : Book) (t : ℕ)
    → Agrees first jobs window restarts before b → b.stale < 4096 → job_of b.outs t ≡ o
    → Agrees first jobs window restarts (Died t ∷ before) (after_died b t o)
unfolding drawn_in outs_in bad_in firsts_in stale_in has_stopped
agrees-died None first jobs window restarts before b t h fresh is = agrees-stale first jobs window restarts before b
    (Died t) t h (record {
      drawn = omega arith;
      outs = λ told. without-none (outs_in first before) t told;
      bads = λ told j. ap (λ o. more_if (is_job o j) kinds.Died (bad_in first before j)) told;
      firsts = λ _ _. omega arith;
      stale = λ told. omega (arith, ap (λ o. cond {A = ℕ} (is_none o) 1 0) told);
      stopping = refl;
    }) fresh is
agrees-died (Some job) first jobs window restarts before b t h fresh is = agrees-bad first jobs window restarts before b
    (Died t) t job kinds.Died h (record {
      drawn = omega arith;
      outs = λ _ _. refl;
      bads = λ _. refl;
      firsts = λ _. omega arith;
      stale = λ _ told. omega (arith, ap (λ o. cond {A = ℕ} (is_none o) 1 0) told);
      stopping = refl;
    }) is

agrees-reply : (o : Option ℕ) (good : Bool) (first jobs window restarts : ℕ) (before : List Call) (b : Book) (t : ℕ)
    → Agrees first jobs window restarts before b → b.stale < 4096 → job_of b.outs t ≡ o
    → Agrees first jobs window restarts (Reply t good ∷ before) (after_reply b t good o)
unfolding drawn_in outs_in bad_in firsts_in stale_in has_stopped
agrees-reply None true first jobs window restarts before b t h fresh is = agrees-stale first jobs window restarts before
    b (Reply t true) t h (record {
      drawn = omega arith;
      outs = λ told. ap (outs_after_reply (outs_in first before) t true) told;
      bads = λ _ _. refl;
      firsts = λ told j. omega (arith, ap (λ o. cond {A = ℕ} (is_job o j) 1 0) told);
      stale = λ told. omega (arith, ap (λ o. cond {A = ℕ} (is_none o) 1 0) told);
      stopping = refl;
    }) fresh is
agrees-reply None false first jobs window restarts before b t h fresh is = agrees-stale first jobs window restarts
    before b (Reply t false) t h (record {
      drawn = omega arith;
      outs = λ told. ap (outs_after_reply (outs_in first before) t false) told;
      bads = λ told j. ap (λ o. more_if (is_job o j) kinds.Reply (bad_in first before j)) told;
      firsts = λ _ _. omega arith;
      stale = λ told. omega (arith, ap (λ o. cond {A = ℕ} (is_none o) 1 0) told);
      stopping = refl;
    }) fresh is
agrees-reply (Some job) true first jobs window restarts before b t h fresh is = agrees-first first jobs window restarts
    before b t job h fresh is
agrees-reply (Some job) false first jobs window restarts before b t h fresh is = agrees-bad first jobs window restarts
    before b (Reply t false) t job kinds.Reply h (record {
      drawn = omega arith;
      outs = λ _ told. ap (outs_after_reply (outs_in first before) t false) told;
      bads = λ _. refl;
      firsts = λ _. omega arith;
      stale = λ _ told. omega (arith, ap (λ o. cond {A = ℕ} (is_none o) 1 0) told);
      stopping = refl;
    }) is

agrees-call : (call : Call) (first jobs window restarts : ℕ) (before : List Call) (b : Book)
    → Agrees first jobs window restarts before b → IsLawful b call
    → Agrees first jobs window restarts (call ∷ before) (after_call b call)
agrees-call (Started job) first jobs window restarts before b h lawful = agrees-started first jobs window restarts
    before b job h lawful
agrees-call (StartFailed job) first jobs window restarts before b h lawful = agrees-start_failed first jobs window
    restarts before b job h lawful
agrees-call (FeedFailed t) first jobs window restarts before b h lawful = agrees-feed_failed first jobs window restarts
    before b t h lawful
agrees-call (Died t) first jobs window restarts before b h lawful = agrees-died (job_of b.outs t) first jobs window
    restarts before b t h lawful refl
agrees-call (Reply t good) first jobs window restarts before b h lawful = agrees-reply (job_of b.outs t) good first jobs
    window restarts before b t h lawful refl
agrees-call (Stopped t) first jobs window restarts before b h lawful = agrees-stopped first jobs window restarts before
    b t h lawful

-- no call yet
agrees-new : (first jobs window restarts : ℕ) → AreLimits first jobs window restarts
    → Agrees first jobs window restarts [] (new_book first jobs window restarts)
unfolding new_book drawn_in outs_in bad_in firsts_in stale_in has_stopped
agrees-new first jobs window restarts l = record {
  first_is = refl;
  window_is = refl;
  restarts_is = refl;
  jobs_is = length-replicate jobs new_account;
  drawn = refl;
  outs = refl;
  bads = λ j. ap (λ (a : Account). a.bad) (fresh-at jobs j);
  firsts = λ j. sym (ap (λ (a : Account). cond {A = ℕ} a.done 1 0) (fresh-at jobs j));
  stale = refl;
  stopping = refl;
  is_book = new-kept first jobs window restarts l.first_small l.jobs_some l.jobs_few l.window_some l.window_few
      l.restarts_few;
}

-- every list of lawful calls
pub agrees-after : LawOfCalls
unfolding after
agrees-after first jobs window restarts l [] lawful = agrees-new first jobs window restarts l
agrees-after first jobs window restarts l (call ∷ before) lawful =
    agrees-call call first jobs window restarts before (after (new_book first jobs window restarts) before)
    (agrees-after first jobs window restarts l before lawful.1) lawful.0
