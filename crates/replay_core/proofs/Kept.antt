-- A book stays one at each event.
use Rattle.std.proofs.Common.{◌≡◌, ◌≢◌, ℕ, zero, suc, ◌+◌, ◌^◌, ◌≤◌, ◌<◌, ◌==◌, Bool, true, false, cond, List, [], ◌∷◌, ◌++◌, Option, None, Some, length, length-append, replicate, inl, inr, refl, sym, ◌∙◌, ap, subst, arith}
use Rattle.std.specs.Prelude.{sum_by}
use Rattle.std.proofs.lemmas.Bool.{cases_Bool, ne_eqb, eq-eqb}
use Rattle.std.proofs.lemmas.List.Folds.{sum_by-replicate}
use Rattle.std.proofs.Math.ListN.{length-replicate}
use Rattle.replay_core.specs.Attempts.{attempt, job_of, without, tickets_of, ticket_of}
use Rattle.replay_core.specs.Book.{Book, new_book, new_account, account_at, account, with_account, count_drawn, count_bad, is_now_done, is_done, total, ticket, after_started, after_start_failed, after_bad, after_stale, after_stopped, after_feed_failed, after_died, after_reply, without_both, rival_of}
use Rattle.replay_core.specs.Next.{next_of}
use Rattle.replay_core.specs.Kept.{IsAccount, IsBook, AreAttempts, AreAscending}
use Rattle.replay_core.specs.declared.attempt.Attempt.{Attempt}
use Rattle.replay_core.specs.declared.account.Account.{Account}
use Rattle.replay_core.specs.declared.bad.Kind.{Kind}
use Rattle.replay_core.specs.declared.bad.Kind.TheVariants as kinds
use Rattle.replay_core.specs.declared.want.Want.TheVariants.{Start}
use Rattle.replay_core.proofs.Attempts.{tickets-nil, tickets-push, tickets-without, length-without, attempts-push, attempts-more, attempts-without, ascending-push, ascending-without, job-known, ticket-none, ticket-job}
use Rattle.replay_core.proofs.Books.{accounts-change, account-started, account-start_failed, account-bad, account-first, account-stopped, length-with, drawn-with, drawn-bound}
use Rattle.replay_core.proofs.Starts.{start-facts}

-- one ticket more or fewer of another job
zero-apart : (job j : ℕ) → j ≢ job → cond {A = ℕ} (job == j) 1 0 ≡ 0
zero-apart job j apart = ap (λ (b : Bool). cond {A = ℕ} b 1 0) (ne_eqb job j (λ e. apart (sym e)))

one-here : (job : ℕ) → cond {A = ℕ} (job == job) 1 0 ≡ 1
one-here job = ap (λ (b : Bool). cond {A = ℕ} b 1 0) (eq-eqb job job refl)

pub fresh-at : (n i : ℕ) → account_at (replicate n new_account) i ≡ new_account
fresh-at zero i = refl
fresh-at (suc n) zero = refl
fresh-at (suc n) (suc i) = fresh-at n i

-- the accounts of a book, from those of another one
pub book-with : (b : Book) (job : ℕ) (change : Account → Account) (outs : List Attempt) (drawn stale : ℕ) → IsBook b
    → job < length b.accounts → (stale ≤ 4096) → (length outs ≤ b.window)
    → AreAttempts (b.first + drawn) (length b.accounts) outs → AreAscending outs
    → ((j : ℕ) → j ≢ job → tickets_of outs j ≡ tickets_of b.outs j)
    → (IsAccount b.restarts b.is_stopping (tickets_of b.outs job) (account b job)
    → IsAccount b.restarts b.is_stopping (tickets_of outs job) (change (account b job)))
    → drawn + (account b job).drawn ≡ b.drawn + (change (account b job)).drawn
    → IsBook (record b { drawn = drawn; stale = stale; outs = outs; accounts = with_account b.accounts job change })
book-with b job change outs drawn stale h known few_stale few_outs attempts order others here sums =
    let same = length-with b.accounts job change in
    let each = accounts-change b.restarts b.is_stopping b.accounts job change b.outs outs known h.each others here in
    let total_drawn = drawn-with b.accounts job change known in
    let bound = drawn-bound b.restarts b.is_stopping (with_account b.accounts job change) outs each in
    let is : drawn ≡ sum_by (λ a. a.drawn) (with_account b.accounts job change) = omega
    (arith, total_drawn, sums, h.drawn) in
    record {
      first = h.first;
      window_some = h.window_some;
      window_few = h.window_few;
      restarts = h.restarts;
      jobs_some = omega (arith, same, h.jobs_some);
      jobs_few = omega (arith, same, h.jobs_few);
      stale = few_stale;
      room = few_outs;
      outs = subst (λ (n : ℕ). AreAttempts (b.first + drawn) n outs) (sym same) attempts;
      order = order;
      each = each;
      drawn = is;
      bound = omega (arith, is, bound);
    }

pub started-kept : (b : Book) (job : ℕ) → next_of b ≡ Start job → b.is_stopping ≡ false → IsBook b
    → IsBook (after_started b job)
started-kept b job wants running h =
    let f = start-facts b job wants in
    let more = λ (j : ℕ). tickets-push b.outs (ticket b) job j in
    let next : b.first + (b.drawn + 1) ≡ (b.first + b.drawn) + 1 = omega arith in
    book-with b job count_drawn (b.outs ++ attempt (ticket b) job ∷ []) (b.drawn + 1) b.stale h f.facts.known h.stale
    (omega (arith, length-append b.outs (attempt (ticket b) job ∷ []), f.room))
    (subst (λ (n : ℕ). AreAttempts n (length b.accounts) (b.outs ++ attempt (ticket b) job ∷ [])) (sym next)
    (attempts-push (b.first + b.drawn) (length b.accounts) b.outs job f.facts.known h.outs))
    (ascending-push (b.first + b.drawn) (length b.accounts) b.outs job h.outs h.order)
    (λ j apart. omega (arith, more j, zero-apart job j apart))
    (λ before.
    let one : tickets_of (b.outs ++ attempt (ticket b) job ∷ []) job ≡ tickets_of b.outs job + 1 = omega
    (arith, more job, one-here job) in
    subst (λ (n : ℕ). IsAccount b.restarts b.is_stopping n (count_drawn (account b job))) (sym one)
    (subst (λ (s : Bool). IsAccount b.restarts s (tickets_of b.outs job + 1) (count_drawn (account b job)))
    (sym running)
    (account-started b.restarts (tickets_of b.outs job) (account b job) f.facts.undone f.facts.few
    (f.unspent job f.facts.known)
    (subst (λ (s : Bool). IsAccount b.restarts s (tickets_of b.outs job) (account b job)) running before))))
    (omega arith)

pub start_failed-kept : (b : Book) (job : ℕ) → next_of b ≡ Start job → b.is_stopping ≡ false → IsBook b
    → IsBook (after_start_failed b job)
start_failed-kept b job wants running h =
    let f = start-facts b job wants in
    let next : b.first + (b.drawn + 1) ≡ (b.first + b.drawn) + 1 = omega arith in
    book-with b job (λ a. count_bad kinds.Start (count_drawn a)) b.outs (b.drawn + 1) b.stale h f.facts.known h.stale
    h.room
    (subst (λ (n : ℕ). AreAttempts n (length b.accounts) b.outs) (sym next)
    (attempts-more (b.first + b.drawn) (length b.accounts) b.outs h.outs))
    h.order
    (λ j apart. refl)
    (λ before.
    subst (λ (s : Bool). IsAccount b.restarts s (tickets_of b.outs job)
    (count_bad kinds.Start (count_drawn (account b job)))) (sym running)
    (account-start_failed b.restarts (tickets_of b.outs job) (account b job) f.facts.undone f.facts.few
    (f.unspent job f.facts.known)
    (subst (λ (s : Bool). IsAccount b.restarts s (tickets_of b.outs job) (account b job)) running before)))
    (omega arith)

pub bad-kept : (b : Book) (t job : ℕ) (kind : Kind) → job_of b.outs t ≡ Some job → IsBook b
    → IsBook (after_bad b t job kind)
bad-kept b t job kind is h =
    let known = job-known (b.first + b.drawn) (length b.accounts) b.outs t job h.outs is in
    let fewer = λ (j : ℕ). tickets-without b.outs t job j is in
    book-with b job (count_bad kind) (without t b.outs) b.drawn b.stale h known h.stale
    (omega (arith, length-without b.outs t job is, h.room))
    (attempts-without (b.first + b.drawn) (length b.accounts) b.outs t h.outs)
    (ascending-without b.outs t h.order)
    (λ j apart. omega (arith, fewer j, zero-apart job j apart))
    (λ before.
    let one : tickets_of b.outs job ≡ tickets_of (without t b.outs) job + 1 = omega (arith, fewer job, one-here job) in
    account-bad b.restarts b.is_stopping (tickets_of (without t b.outs) job) kind (account b job)
    (subst (λ (n : ℕ). IsAccount b.restarts b.is_stopping n (account b job)) one before))
    (omega arith)

pub stale-kept : (b : Book) → b.stale < 4096 → IsBook b → IsBook (after_stale b)
stale-kept b fresh h = record {
  first = h.first;
  window_some = h.window_some;
  window_few = h.window_few;
  restarts = h.restarts;
  jobs_some = h.jobs_some;
  jobs_few = h.jobs_few;
  stale = omega (arith, fresh);
  room = h.room;
  outs = h.outs;
  order = h.order;
  each = h.each;
  drawn = h.drawn;
  bound = h.bound;
}

pub stopped-kept : (b : Book) (t job : ℕ) → job_of b.outs t ≡ Some job → IsBook b → IsBook (after_stopped b t)
stopped-kept b t job is h = record {
  first = h.first;
  window_some = h.window_some;
  window_few = h.window_few;
  restarts = h.restarts;
  jobs_some = h.jobs_some;
  jobs_few = h.jobs_few;
  stale = h.stale;
  room = omega (arith, length-without b.outs t job is, h.room);
  outs = attempts-without (b.first + b.drawn) (length b.accounts) b.outs t h.outs;
  order = ascending-without b.outs t h.order;
  each = λ j below. account-stopped b.restarts b.is_stopping (tickets_of b.outs j) (tickets_of (without t b.outs) j)
      (account b j) (omega (arith, tickets-without b.outs t job j is)) (h.each j below);
  drawn = h.drawn;
  bound = h.bound;
}

-- a job is done by its one ticket that is out
pub first-alone-kept : (b : Book) (t job : ℕ) → job_of b.outs t ≡ Some job → ticket_of (without t b.outs) job ≡ None
    → IsBook b → IsBook (record b { outs = without t b.outs; accounts = with_account b.accounts job is_now_done })
first-alone-kept b t job is alone h =
    let known = job-known (b.first + b.drawn) (length b.accounts) b.outs t job h.outs is in
    let fewer = λ (j : ℕ). tickets-without b.outs t job j is in
    book-with b job is_now_done (without t b.outs) b.drawn b.stale h known h.stale
    (omega (arith, length-without b.outs t job is, h.room))
    (attempts-without (b.first + b.drawn) (length b.accounts) b.outs t h.outs)
    (ascending-without b.outs t h.order)
    (λ j apart. omega (arith, fewer j, zero-apart job j apart))
    (λ before. account-first b.restarts b.is_stopping (tickets_of b.outs job) (tickets_of (without t b.outs) job)
    (account b job) (ticket-none (without t b.outs) job alone) before)
    (omega arith)

-- a job is done by one of its two tickets, and the other one is out no longer either
pub first-rival-kept : (b : Book) (t job rival : ℕ) → job_of b.outs t ≡ Some job
    → ticket_of (without t b.outs) job ≡ Some rival → IsBook b
    → IsBook (record b { outs = without rival (without t b.outs); accounts = with_account b.accounts job is_now_done })
first-rival-kept b t job rival is other h =
    let known = job-known (b.first + b.drawn) (length b.accounts) b.outs t job h.outs is in
    let left = attempts-without (b.first + b.drawn) (length b.accounts) b.outs t h.outs in
    let is_rival = ticket-job (b.first + b.drawn) (length b.accounts) (without t b.outs) job rival left other in
    let fewer = λ (j : ℕ). tickets-without b.outs t job j is in
    let less = λ (j : ℕ). tickets-without (without t b.outs) rival job j is_rival in
    let two = (h.each job known).two in
    book-with b job is_now_done (without rival (without t b.outs)) b.drawn b.stale h known h.stale
    (omega (arith, length-without b.outs t job is, length-without (without t b.outs) rival job is_rival, h.room))
    (attempts-without (b.first + b.drawn) (length b.accounts) (without t b.outs) rival left)
    (ascending-without (without t b.outs) rival (ascending-without b.outs t h.order))
    (λ j apart. omega (arith, fewer j, less j, zero-apart job j apart))
    (λ before. account-first b.restarts b.is_stopping (tickets_of b.outs job)
    (tickets_of (without rival (without t b.outs)) job) (account b job)
    (omega (arith, fewer job, less job, one-here job, two)) before)
    (omega arith)

pub new-kept : (first jobs window restarts : ℕ) → first < 2 ^ 31 → 1 ≤ jobs → jobs ≤ 256 → 1 ≤ window → window ≤ 32
    → restarts ≤ 16 → IsBook (new_book first jobs window restarts)
unfolding new_book
new-kept first jobs window restarts f js jf ws wf r =
    let n : length (replicate jobs new_account) ≡ jobs = length-replicate jobs new_account in
    record {
      first = f;
      window_some = ws;
      window_few = wf;
      restarts = r;
      jobs_some = omega (arith, n);
      jobs_few = omega (arith, n);
      stale = omega arith;
      room = omega arith;
      outs = tt;
      order = tt;
      each = λ job below.
          let fresh : account_at (replicate jobs new_account) job ≡ new_account = fresh-at jobs job in
          let empty = tickets-nil job in
          subst (λ (a : Account). IsAccount restarts false (tickets_of [] job) a) (sym fresh)
          (record {
            few = omega arith;
            most = omega (arith, empty);
            all = λ _ _. omega arith;
            two = omega
                (arith, empty);
            none = λ _. empty;
          });
      drawn = sym (sum_by-replicate (λ (a : Account). a.drawn) jobs new_account ∙ omega arith);
      bound = omega arith;
    }

-- the counts of a job are small
pub account-small : (b : Book) (job : ℕ) → IsBook b → job < length b.accounts → total (account b job).bad + 1 < 2 ^ 32
account-small b job h known =
    let each = h.each job known in
    omega (arith, each.few, each.most, h.restarts)

-- at each call
pub feed_failed-kept : (b : Book) (t : ℕ) (o : Option ℕ) → job_of b.outs t ≡ o → IsBook b
    → IsBook (after_feed_failed b t o)
feed_failed-kept b t None is h = h
feed_failed-kept b t (Some job) is h = bad-kept b t job kinds.Feed is h

pub died-kept : (b : Book) (t : ℕ) (o : Option ℕ) → job_of b.outs t ≡ o → b.stale < 4096 → IsBook b
    → IsBook (after_died b t o)
died-kept b t None is fresh h = stale-kept b fresh h
died-kept b t (Some job) is fresh h = bad-kept b t job kinds.Died is h

first-kept : (b : Book) (t job : ℕ) (o : Option ℕ) → job_of b.outs t ≡ Some job → rival_of b.outs t job ≡ o → IsBook b
    → IsBook (record b { outs = without_both t o b.outs; accounts = with_account b.accounts job is_now_done })
first-kept b t job None is alone h = first-alone-kept b t job is alone h
first-kept b t job (Some rival) is other h = first-rival-kept b t job rival is other h

pub reply-kept : (b : Book) (t : ℕ) (good : Bool) (o : Option ℕ) → job_of b.outs t ≡ o → b.stale < 4096 → IsBook b
    → IsBook (after_reply b t good o)
reply-kept b t good None is fresh h = stale-kept b fresh h
reply-kept b t true (Some job) is fresh h = first-kept b t job (rival_of b.outs t job) is refl h
reply-kept b t false (Some job) is fresh h = bad-kept b t job kinds.Reply is h

-- a job of which a ticket is out isn't done
pub undone : (b : Book) (t job : ℕ) → IsBook b → job_of b.outs t ≡ Some job → is_done b job ≡ false
undone b t job h is = elim (cases_Bool (is_done b job)) [
  | inl done ↦
      let known = job-known (b.first + b.drawn) (length b.accounts) b.outs t job h.outs is in
      absurd (omega (arith, (h.each job known).none done, one-here job, tickets-without b.outs t job job is))
  | inr open_still ↦ open_still
]
