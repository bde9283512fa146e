-- A turn passes at most one limit, and leaves fewer turns.
use Rattle.std.proofs.Common.{◌≡◌, ◌≢◌, ℕ, ◌+◌, ◌*◌, ◌≤◌, ◌<◌, not, Bool, true, false, cond, inl, inr, List, [], ◌∷◌, ◌++◌, Option, None, Some, length, length-append, refl, sym, ◌∙◌, ap, subst, arith}
use Rattle.std.proofs.lemmas.Bool.{cases_eq, cases_lt}
use Rattle.replay_core.specs.Below.{sum_below}
use Rattle.replay_core.specs.Attempts.{attempt, job_of, without, ticket_of}
use Rattle.replay_core.specs.Book.{Book, new_account, account_at, total, with_account, count_drawn, count_bad, is_now_done, ticket, after_started, after_start_failed, after_bad, after_stale, after_first, after_died, after_reply, without_both, rival_of}
use Rattle.replay_core.specs.Kept.{IsBook}
use Rattle.replay_core.specs.Next.{open_in, total_at, NoneSpent, OneSpent, IsNear, MayStart, MustWait, HasSpent, AllDone, Turned}
use Rattle.replay_core.specs.declared.account.Account.{Account}
use Rattle.replay_core.specs.declared.bad.Kind.{Kind}
use Rattle.replay_core.specs.declared.bad.Kind.TheVariants.{Start, Feed, Died, Reply}
use Rattle.replay_core.proofs.Attempts.{length-without, attempts-without, ticket-job, job-known}
use Rattle.replay_core.proofs.Books.{account-here, account-other, length-with, part-kept, total-more}
use Rattle.replay_core.proofs.Sums.{count-at, sum_below-same}

-- a change of an account that keeps whether it is done keeps how many are open
pub open-kept : (accounts : List Account) (job : ℕ) (change : Account → Account)
    → ((a : Account) → (change a).done ≡ a.done) → job < length accounts
    → open_in (with_account accounts job change) ≡ open_in accounts
open-kept accounts job change keeps known =
    let left = count-at (λ (a : Account). not a.done) (with_account accounts job change) new_account in
    let right = count-at (λ (a : Account). not a.done) accounts new_account in
    let each = sum_below-same (λ j. cond {A = ℕ} (not (account_at (with_account accounts job change) j).done) 1 0)
    (λ j. cond {A = ℕ} (not (account_at accounts j).done) 1 0) (length accounts)
    (λ j below. ap (λ (t : Bool). cond {A = ℕ} (not t) 1 0)
    (part-kept (λ (a : Account). a.done) accounts job change keeps known j)) in
    let size = ap (λ n. sum_below (λ j. cond {A = ℕ} (not (account_at (with_account accounts job change) j).done) 1 0)
    n) (length-with accounts job change) in
    left ∙ size ∙ each ∙ sym right

-- a change of an account that keeps how many attempts were bad keeps that no job is spent
pub none-kept : (restarts stale : ℕ) (accounts : List Account) (job : ℕ) (change : Account → Account)
    → ((a : Account) → total (change a).bad ≡ total a.bad) → job < length accounts → NoneSpent restarts stale accounts
    → NoneSpent restarts stale (with_account accounts job change)
none-kept restarts stale accounts job change keeps known h = record {
  few = λ j below. omega (
    arith,
    part-kept (λ (a : Account). total a.bad) accounts job change keeps known j,
    h.few j
        (omega (arith, below, length-with accounts job change)),
  );
  fresh = h.fresh;
}

other-few : (restarts stale : ℕ) (accounts : List Account) (job : ℕ) (change : Account → Account)
    → NoneSpent restarts stale accounts → (j : ℕ) → j < length (with_account accounts job change) → j ≢ job
    → total_at (with_account accounts job change) j ≤ restarts
other-few restarts stale accounts job change h j below apart =
    let same = ap (λ (a : Account). total a.bad) (account-other accounts job j change apart) in
    omega (arith, same, h.few j (omega (arith, below, length-with accounts job change)))

-- one bad attempt more
pub near-more : (restarts stale : ℕ) (accounts : List Account) (job : ℕ) (change : Account → Account)
    → ((a : Account) → total (change a).bad ≡ total a.bad + 1) → ((a : Account) → (change a).done ≡ a.done)
    → job < length accounts → NoneSpent restarts stale accounts → 0 < open_in accounts
    → IsNear restarts stale (with_account accounts job change)
near-more restarts stale accounts job change adds keeps known h some =
    let size = length-with accounts job change in
    let here : total_at (with_account accounts job change) job ≡ total_at accounts
    job + 1 = ap (λ (a : Account). total a.bad) (account-here accounts job change known)
    ∙ adds (account_at accounts job) in
    let others = other-few restarts stale accounts job change h in
    elim (cases_lt restarts (total_at (with_account accounts job change) job)) [
      | inl over ↦ inr (inl (
        job,
        record {
          known = omega (arith, known, size);
          one = omega (arith, over, here, h.few job known);
          others = others;
          fresh = h.fresh;
          some_open = omega (arith, some, open-kept accounts job change keeps known);
        },
      ))
      | inr within ↦ inl (record {
        few = λ j below. elim (cases_eq j job) [
          | inl same ↦ subst (λ (k : ℕ). total_at (with_account accounts job change) k ≤ restarts) (sym same) within
          | inr apart ↦ others j below apart
        ];
        fresh = h.fresh;
      })
    ]

-- one stale event more
near-stale : (restarts stale : ℕ) (accounts : List Account) → NoneSpent restarts stale accounts → 0 < open_in accounts
    → IsNear restarts (stale + 1) accounts
near-stale restarts stale accounts h some = elim (cases_lt (stale + 1) 4096) [
  | inl fresh ↦ inl (record { few = h.few; fresh = fresh })
  | inr many ↦ inr (inr (record { few = h.few; many = omega (arith, many, h.fresh); some_open = some }))
]

times : (accounts : List Account) (restarts job : ℕ) (change : Account → Account)
    → length (with_account accounts job change) * (restarts + 2) ≡ length accounts * (restarts + 2)
times accounts restarts job change = ap (λ (n : ℕ). n * (restarts + 2)) (length-with accounts job change)

-- each turn
pub turned-started : (b : Book) (job : ℕ) → MayStart b job → IsBook (after_started b job)
    → Turned b (after_started b job)
turned-started b job f kept = record {
  fewer = omega (
    arith,
    times b.accounts b.restarts job count_drawn,
    kept.bound,
    length-append b.outs
        (attempt (ticket b) job ∷ []),
  );
  near = inl (none-kept b.restarts b.stale b.accounts job count_drawn (λ a. refl) f.known f.unspent);
}

pub turned-start_failed : (b : Book) (job : ℕ) → MayStart b job → IsBook (after_start_failed b job)
    → Turned b (after_start_failed b job)
turned-start_failed b job f kept = record {
  fewer = omega (arith, times b.accounts b.restarts job (λ a. count_bad Start (count_drawn a)), kept.bound);
  near = near-more b.restarts b.stale b.accounts job (λ a. count_bad Start (count_drawn a))
      (λ a. total-more Start a.bad) (λ a. refl) f.known f.unspent f.some_open;
}

pub turned-feed_failed : (b : Book) (t job : ℕ) → MayStart b job → IsBook (after_started b job)
    → job_of (after_started b job).outs t ≡ Some job → Turned b (after_bad (after_started b job) t job Feed)
turned-feed_failed b t job f kept is =
    let here : job < length (with_account b.accounts job count_drawn) = omega
    (arith, f.known, length-with b.accounts job count_drawn) in
    record {
      fewer = omega (
        arith,
        times b.accounts b.restarts job count_drawn,
        times (with_account b.accounts job count_drawn)
            b.restarts job (count_bad Feed),
        kept.bound,
        length-append b.outs (attempt (ticket b) job ∷ []),
        length-without (b.outs ++ attempt (ticket b) job ∷ []) t job is,
      );
      near = near-more b.restarts b.stale (with_account b.accounts job count_drawn) job (count_bad Feed)
          (λ a. total-more Feed a.bad) (λ a. refl) here
          (none-kept b.restarts b.stale b.accounts job count_drawn (λ a. refl) f.known f.unspent)
          (omega (arith, f.some_open, open-kept b.accounts job count_drawn (λ a. refl) f.known));
    }

turned-bad : (b : Book) (t job : ℕ) (kind : Kind) → MustWait b → IsBook b → job_of b.outs t ≡ Some job
    → Turned b (after_bad b t job kind)
turned-bad b t job kind f h is =
    let known = job-known (b.first + b.drawn) (length b.accounts) b.outs t job h.outs is in
    record {
      fewer = omega (arith, times b.accounts b.restarts job (count_bad kind), length-without b.outs t job is);
      near = near-more b.restarts b.stale b.accounts job (count_bad kind) (λ a. total-more kind a.bad) (λ a. refl) known
          f.unspent f.some_open;
    }

turned-stale : (b : Book) → MustWait b → Turned b (after_stale b)
turned-stale b f = record {
  fewer = omega (arith, f.unspent.fresh);
  near = near-stale b.restarts b.stale b.accounts f.unspent f.some_open;
}

length-both : (b : Book) (t job : ℕ) (o : Option ℕ) → IsBook b → job_of b.outs t ≡ Some job
    → ticket_of (without t b.outs) job ≡ o → length (without_both t o b.outs) < length b.outs
length-both b t job None h is other = omega (arith, length-without b.outs t job is)
length-both b t job (Some rival) h is other =
    let left = attempts-without (b.first + b.drawn) (length b.accounts) b.outs t h.outs in
    let is_rival = ticket-job (b.first + b.drawn) (length b.accounts) (without t b.outs) job rival left other in
    omega (arith, length-without b.outs t job is, length-without (without t b.outs) rival job is_rival)

turned-first : (b : Book) (t job : ℕ) → MustWait b → IsBook b → job_of b.outs t ≡ Some job
    → Turned b (after_first b t job)
turned-first b t job f h is =
    let known = job-known (b.first + b.drawn) (length b.accounts) b.outs t job h.outs is in
    record {
      fewer = omega (
        arith,
        times b.accounts b.restarts job is_now_done,
        length-both b t job (rival_of b.outs t job) h
            is refl,
      );
      near = inl (none-kept b.restarts b.stale b.accounts job is_now_done (λ a. refl) known f.unspent);
    }

turned-died-by : (o : Option ℕ) (b : Book) (t : ℕ) → MustWait b → IsBook b → job_of b.outs t ≡ o
    → Turned b (after_died b t o)
turned-died-by None b t f h is = turned-stale b f
turned-died-by (Some job) b t f h is = turned-bad b t job Died f h is

pub turned-died : (b : Book) (t : ℕ) → MustWait b → IsBook b → Turned b (after_died b t (job_of b.outs t))
turned-died b t f h = turned-died-by (job_of b.outs t) b t f h refl

turned-reply-by : (o : Option ℕ) (good : Bool) (b : Book) (t : ℕ) → MustWait b → IsBook b → job_of b.outs t ≡ o
    → Turned b (after_reply b t good o)
turned-reply-by None good b t f h is = turned-stale b f
turned-reply-by (Some job) true b t f h is = turned-first b t job f h is
turned-reply-by (Some job) false b t f h is = turned-bad b t job Reply f h is

pub turned-reply : (b : Book) (t : ℕ) (good : Bool) → MustWait b → IsBook b
    → Turned b (after_reply b t good (job_of b.outs t))
turned-reply b t good f h = turned-reply-by (job_of b.outs t) good b t f h refl

-- where a job is over the limit, it is the one that is
pub spent-is : (b : Book) (job : ℕ) → HasSpent b job → IsNear b.restarts b.stale b.accounts
    → OneSpent b.restarts b.stale b.accounts job
spent-is b job f near = elim near [
  | inl none ↦ absurd (omega (arith, f.over, none.few job f.known))
  | inr some ↦ elim some [
    | inl one ↦ elim (cases_eq job one.0) [
      | inl same ↦ subst (λ (k : ℕ). OneSpent b.restarts b.stale b.accounts k) (sym same) one.1
      | inr apart ↦ absurd (omega (arith, f.over, one.1.others job f.known apart))
    ]
    | inr many ↦ absurd (omega (arith, f.over, many.few job f.known))
  ]
]

-- where all are done, no limit is passed
pub done-is : (b : Book) → AllDone b → IsNear b.restarts b.stale b.accounts → NoneSpent b.restarts b.stale b.accounts
done-is b f near = elim near [
  | inl none ↦ none
  | inr some ↦ elim some [
    | inl one ↦ absurd (omega (arith, f.none_open, one.1.some_open))
    | inr many ↦ absurd (omega (arith, f.none_open, many.some_open))
  ]
]
