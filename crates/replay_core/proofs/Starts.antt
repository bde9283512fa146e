-- What is known where a start is wanted.
use Rattle.std.proofs.Common.{◌≡◌, ℕ, zero, suc, ◌≤◌, ◌<◌, ◌==◌, ◌&&◌, not, Bool, true, false, cond, ◌⊎◌, inl, inr, Option, None, Some, List, length, nat_lt, nat_le, refl, sym, ap, subst, arith}
use Rattle.std.specs.Option.{option_or}
use Rattle.std.proofs.lemmas.Bool.{and_parts, not-true, eqb-true, ltb-true, ltb-false, leb-false}
use Rattle.std.proofs.lemmas.Option.{none-some, cond_some}
use Rattle.replay_core.specs.Below.{first_below}
use Rattle.replay_core.specs.Attempts.{job_with, wanted, tickets_of}
use Rattle.replay_core.specs.Book.{Book, is_done, bad_of, total}
use Rattle.replay_core.specs.Next.{next_of, are_all_done, first_spent, start_or_wait, unless_spent}
use Rattle.replay_core.specs.declared.attempt.Attempt.{Attempt}
use Rattle.replay_core.specs.declared.want.Want.TheVariants.{Start, Wait, Finished, Stale, Spent}
use Rattle.replay_core.proofs.Below.{below_or_last}

some_or : (a b : Option ℕ) (x : ℕ) → option_or a b ≡ Some x → (a ≡ Some x) ⊎ ((a ≡ None) × (b ≡ Some x))
some_or None b x h = inr (refl, h)
some_or (Some y) b x h = inl h

pub none_or : (a b : Option ℕ) → option_or a b ≡ None → (a ≡ None) × (b ≡ None)
none_or None b h = (refl, h)
none_or (Some y) b h = absurd (none-some y (sym h))

cond_nothing : (b : Bool) (x : ℕ) → cond b (Some x) None ≡ None → b ≡ false
cond_nothing true x h = absurd (none-some x (sym h))
cond_nothing false x h = refl

-- the least number that passes is below n and passes
pub found-below : (test : ℕ → Bool) (n i : ℕ) → first_below test n ≡ Some i → (i < n) × (test i ≡ true)
found-below test zero i h = absurd (none-some i h)
found-below test (suc n) i h = elim (some_or (first_below test n) (cond (test n) (Some n) None) i h) [
  | inl earlier ↦ let parts = found-below test n i earlier in (omega (arith, parts.0), parts.1)
  | inr last ↦ let parts = cond_some (test n) n i last.1 in (
    omega (arith, parts.1),
    subst (λ (k : ℕ). test k ≡ true)
        parts.1 parts.0,
  )
]

-- where none is found, none passes
pub none-below : (test : ℕ → Bool) (n i : ℕ) → first_below test n ≡ None → i < n → test i ≡ false
none-below test zero i h below = absurd (omega arith)
none-below test (suc n) i h below =
    let parts = none_or (first_below test n) (cond (test n) (Some n) None) h in
    elim (below_or_last i n below) [
      | inl lower ↦ none-below test n i parts.0 lower
      | inr same ↦ subst (λ (k : ℕ). test k ≡ false) (sym same) (cond_nothing (test n) n parts.1)
    ]

record IsReady (n : ℕ) (is_done : ℕ → Bool) (outs : List Attempt) (count job : ℕ) : Type 0 where
  known : job < n
  undone : is_done job ≡ false
  tickets : tickets_of outs job ≡ count

ready : (n : ℕ) (is_done : ℕ → Bool) (outs : List Attempt) (count job : ℕ) → job_with n is_done outs count ≡ Some job
    → IsReady n is_done outs count job
unfolding job_with
ready n is_done outs count job h =
    let found = found-below (λ job. not (is_done job) && tickets_of outs job == count) n job h in
    let parts = and_parts (not (is_done job)) (tickets_of outs job == count) found.1 in
    record {
      known = found.0;
      undone = not-true (is_done job) parts.0;
      tickets = eqb-true (tickets_of outs job) count
          parts.1;
    }

-- a job that is wanted isn't done, and has at most one ticket out
pub record IsWanted (n : ℕ) (is_done : ℕ → Bool) (outs : List Attempt) (job : ℕ) : Type 0 where
  pub known : job < n
  pub undone : is_done job ≡ false
  pub few : tickets_of outs job ≤ 1

pub is-wanted : (n : ℕ) (is_done : ℕ → Bool) (outs : List Attempt) (job : ℕ) → wanted n is_done outs ≡ Some job
    → IsWanted n is_done outs job
unfolding wanted
is-wanted n is_done outs job h = elim (some_or (job_with n is_done outs 0) (job_with n is_done outs 1) job h) [
  | inl none ↦ let r = ready n is_done outs 0 job none in record {
    known = r.known;
    undone = r.undone;
    few = omega
        (arith, r.tickets);
  }
  | inr one ↦ let r = ready n is_done outs 1 job one.1 in record {
    known = r.known;
    undone = r.undone;
    few = omega
        (arith, r.tickets);
  }
]

-- the tests behind an answer
pub start-parts : (done : Bool) (spent : Option ℕ) (stale room : Bool) (want : Option ℕ) (job : ℕ)
    → cond done Finished (unless_spent spent (cond stale Stale (cond room (start_or_wait want) Wait))) ≡ Start job
    → (spent ≡ None) × (stale ≡ false) × (room ≡ true) × (want ≡ Some job)
start-parts true spent stale room want job h = absurd (grind arith)
start-parts false (Some k) stale room want job h = absurd (grind arith)
start-parts false None true room want job h = absurd (grind arith)
start-parts false None false false want job h = absurd (grind arith)
start-parts false None false true None job h = absurd (grind arith)
start-parts false None false true (Some k) job h = let same : k ≡ job = grind
    arith in (refl, refl, refl, ap (λ (n : ℕ). Some n) same)

-- what is known where a start is wanted
pub record StartFacts (b : Book) (job : ℕ) : Type 0 where
  pub facts : IsWanted (length b.accounts) (is_done b) b.outs job
  pub is : wanted (length b.accounts) (is_done b) b.outs ≡ Some job
  pub unspent : (j : ℕ) → j < length b.accounts → total (bad_of b j) ≤ b.restarts
  pub room : length b.outs < b.window
  pub fresh : b.stale < 4096

pub unspent-below : (b : Book) → first_spent b ≡ None → (j : ℕ) → j < length b.accounts
    → total (bad_of b j) ≤ b.restarts
unspent-below b h j below = ltb-false b.restarts (total (bad_of b j))
    (none-below (λ job. nat_lt b.restarts (total (bad_of b job))) (length b.accounts) j h below)

pub start-facts : (b : Book) (job : ℕ) → next_of b ≡ Start job → StartFacts b job
unfolding next_of
start-facts b job h =
    let parts = start-parts (are_all_done b) (first_spent b) (nat_le 4096 b.stale) (nat_lt (length b.outs) b.window)
    (wanted (length b.accounts) (is_done b) b.outs) job h in
    record {
      facts = is-wanted (length b.accounts) (is_done b) b.outs job parts.3;
      is = parts.3;
      unspent = unspent-below b parts.0;
      room = ltb-true (length b.outs) b.window parts.2;
      fresh = leb-false 4096 b.stale parts.1;
    }

-- the answer, by its tests
pub next-done : (b : Book) → are_all_done b ≡ true → next_of b ≡ Finished
unfolding next_of
next-done b d = rw d refl

pub next-spent : (b : Book) (job : ℕ) → are_all_done b ≡ false → first_spent b ≡ Some job → next_of b ≡ Spent job
unfolding next_of
next-spent b job d s = rw (d, s) refl

pub next-stale : (b : Book) → are_all_done b ≡ false → first_spent b ≡ None → nat_le 4096 b.stale ≡ true
    → next_of b ≡ Stale
unfolding next_of
next-stale b d s t = rw (d, s, t) refl

pub next-full : (b : Book) → are_all_done b ≡ false → first_spent b ≡ None → nat_le 4096 b.stale ≡ false
    → nat_lt (length b.outs) b.window ≡ false → next_of b ≡ Wait
unfolding next_of
next-full b d s t r = rw (d, s, t, r) refl

pub next-wanted : (b : Book) (want : Option ℕ) → are_all_done b ≡ false → first_spent b ≡ None
    → nat_le 4096 b.stale ≡ false → nat_lt (length b.outs) b.window ≡ true
    → wanted (length b.accounts) (is_done b) b.outs ≡ want → next_of b ≡ start_or_wait want
unfolding next_of
next-wanted b want d s t r w = rw (d, s, t, r) (ap start_or_wait w)
