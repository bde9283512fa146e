-- Where the book waits, the window is full or each open job has two tickets out.
use Rattle.std.proofs.Common.{◌≡◌, ℕ, zero, suc, ◌+◌, ◌*◌, ◌≤◌, ◌<◌, ◌==◌, ◌&&◌, ◌||◌, ◌⊎◌, not, min, Bool, true, false, cond, inl, inr, List, [], ◌∷◌, Option, None, Some, length, nat_lt, nat_le, refl, sym, ◌∙◌, ap, arith}
use Rattle.std.proofs.lemmas.Bool.{cases_Bool, cases_lt, and_from, eq-eqb, ltb-true, ltb-false, leb-true, leb-false, true≢false, not_from_false}
use Rattle.replay_core.specs.Below.{all_below, sum_below}
use Rattle.replay_core.specs.Attempts.{is_out, job_with, wanted, tickets_of}
use Rattle.replay_core.specs.Book.{Book, is_done, bad_of, total, new_account}
use Rattle.replay_core.specs.Next.{next_of, are_all_done, first_spent, open_in, unless_spent, start_or_wait, IsNext, MustWait}
use Rattle.replay_core.specs.Kept.{IsBook, AreAttempts}
use Rattle.replay_core.specs.declared.attempt.Attempt.{Attempt}
use Rattle.replay_core.specs.declared.account.Account.{Account}
use Rattle.replay_core.specs.declared.want.Want.TheVariants.{Finished, Stale, Wait}
use Rattle.replay_core.proofs.Attempts.{out-cons, tickets-nil, tickets-cons}
use Rattle.replay_core.proofs.Below.{all_below-at}
use Rattle.replay_core.proofs.Starts.{none-below, none_or, unspent-below, is-wanted, found-below}
use Rattle.replay_core.proofs.Sums.{sum_below-le, sum_below-same, sum_below-plus, sum_below-zero, sum_below-times, sum_below-pick, count-at}

-- each ticket that is out is one of some job
pub tickets-sum : (n m : ℕ) (outs : List Attempt) → AreAttempts n m outs → sum_below (tickets_of outs) m ≡ length outs
tickets-sum n m [] h = sum_below-zero (tickets_of []) m (λ j below. tickets-nil j)
tickets-sum n m (a ∷ outs) h =
    let each = sum_below-same (tickets_of (a ∷ outs)) (λ j. cond (a.job == j) 1 0 + tickets_of outs j) m
    (λ j below. tickets-cons a outs j) in
    let both = sum_below-plus (λ j. cond {A = ℕ} (a.job == j) 1 0) (tickets_of outs) m in
    let one = sum_below-pick (λ _. 1) a.job m h.1 in
    let rest = tickets-sum n m outs h.3 in
    omega (arith, each, both, one, rest)

fails-right : (a b : Bool) → a ≡ true → (a && b) ≡ false → b ≡ false
fails-right true b h fails = fails
fails-right false b h fails = absurd (true≢false (sym h))

-- two for an open job, none for one that is done
at-most : (b : Book) (job : ℕ) → IsBook b → job < length b.accounts
    → tickets_of b.outs job ≤ cond {A = ℕ} (not (is_done b job)) 1 0 * 2
at-most b job h below = elim (cases_Bool (is_done b job)) [
  | inl done ↦ let none = (h.each job below).none done in omega (arith, none)
  | inr undone ↦ let two = (h.each job below).two in rw undone (omega (arith, two))
]

fits-two : (n : ℕ) → n ≤ 2 → (n == 0) ≡ false → (n == 1) ≡ false → n ≡ 2
fits-two zero few none one = absurd (true≢false none)
fits-two (suc zero) few none one = absurd (true≢false one)
fits-two (suc (suc n)) few none one = omega arith

exactly : (b : Book) (job : ℕ) → IsBook b → job < length b.accounts
    → wanted (length b.accounts) (is_done b) b.outs ≡ None
    → tickets_of b.outs job ≡ cond {A = ℕ} (not (is_done b job)) 1 0 * 2
unfolding wanted job_with
exactly b job h below is = elim (cases_Bool (is_done b job)) [
  | inl done ↦ let none = (h.each job below).none done in rw done (omega (arith, none))
  | inr undone ↦
      let parts = none_or (job_with (length b.accounts) (is_done b) b.outs 0)
      (job_with (length b.accounts) (is_done b) b.outs 1) is in
      let no_zero = fails-right (not (is_done b job)) (tickets_of b.outs job == 0)
      (not_from_false (is_done b job) undone) (none-below (λ j. not (is_done b j) && tickets_of b.outs j == 0)
      (length b.accounts) job parts.0 below) in
      let no_one = fails-right (not (is_done b job)) (tickets_of b.outs job == 1)
      (not_from_false (is_done b job) undone) (none-below (λ j. not (is_done b j) && tickets_of b.outs j == 1)
      (length b.accounts) job parts.1 below) in
      let two = fits-two (tickets_of b.outs job) (h.each job below).two no_zero no_one in
      rw undone (omega (arith, two))
]

pub full-where-it-waits : (b : Book) → IsBook b → (nat_lt (length b.outs) b.window ≡ false)
    ⊎ (wanted (length b.accounts) (is_done b) b.outs ≡ None) → length b.outs ≡ min b.window (2 * open_in b.accounts)
full-where-it-waits b h why =
    let all = tickets-sum (b.first + b.drawn) (length b.accounts) b.outs h.outs in
    let counted = count-at (λ (a : Account). not a.done) b.accounts new_account in
    let twice = sum_below-times (λ j. cond {A = ℕ} (not (is_done b j)) 1 0) 2 (length b.accounts) in
    let most = sum_below-le (tickets_of b.outs) (λ j. cond {A = ℕ} (not (is_done b j)) 1 0 * 2) (length b.accounts)
    (λ j below. at-most b j h below) in
    elim why [
      | inl full ↦ omega (arith, ltb-false (length b.outs) b.window full, h.room, all, counted, twice, most)
      | inr none ↦
          let same = sum_below-same (tickets_of b.outs) (λ j. cond {A = ℕ} (not (is_done b j)) 1 0 * 2)
          (length b.accounts) (λ j below. exactly b j h below none) in
          omega (arith, h.room, all, counted, twice, same)
    ]

-- where not every job is done, some job is open
all-from-zero : (done : ℕ → Bool) (n : ℕ) → sum_below (λ j. cond {A = ℕ} (not (done j)) 1 0) n ≡ 0
    → all_below done n ≡ true
all-from-zero done zero h = refl
all-from-zero done (suc n) h = elim (cases_Bool (done n)) [
  | inl last ↦ and_from (all_below done n) (done n) (all-from-zero done n (omega (arith, h))) last
  | inr last ↦ absurd (omega (arith, h, ap (λ (b : Bool). cond {A = ℕ} (not b) 1 0) last))
]

pub open-where-undone : (b : Book) → are_all_done b ≡ false → 0 < open_in b.accounts
open-where-undone b undone = elim (cases_lt 0 (open_in b.accounts)) [
  | inl some ↦ some
  | inr none ↦
      let counted = count-at (λ (a : Account). not a.done) b.accounts new_account in
      let zero_open : sum_below (λ j. cond {A = ℕ} (not (is_done b j)) 1 0) (length b.accounts) ≡ 0 = omega
      (arith, counted, none) in
      absurd (true≢false (sym (all-from-zero (is_done b) (length b.accounts) zero_open) ∙ undone))
]

none-open : (b : Book) → are_all_done b ≡ true → open_in b.accounts ≡ 0
none-open b all =
    let counted = count-at (λ (a : Account). not a.done) b.accounts new_account in
    let nothing = sum_below-zero (λ j. cond {A = ℕ} (not (is_done b j)) 1 0) (length b.accounts)
    (λ j below. ap (λ (x : Bool). cond {A = ℕ} (not x) 1 0)
    (all_below-at (is_done b) (length b.accounts) j all below)) in
    omega (arith, counted, nothing)

some-out : (outs : List Attempt) → 0 < length outs → (t : ℕ) × (is_out outs t ≡ true)
some-out [] h = absurd (omega arith)
some-out (a ∷ outs) h = (
  a.ticket,
  out-cons a outs a.ticket
      ∙ ap (λ (b : Bool). b || is_out outs a.ticket) (eq-eqb a.ticket a.ticket refl),
)

empty-list : (outs : List Attempt) → length outs ≤ 0 → outs ≡ []
empty-list [] few = refl
empty-list (a ∷ outs) few = absurd (omega arith)

none-out : (b : Book) → IsBook b → are_all_done b ≡ true → b.outs ≡ []
none-out b h all =
    let each = λ (j : ℕ) (below : j < length b.accounts). (h.each j below).none
    (all_below-at (is_done b) (length b.accounts) j all below) in
    let zero_sum = sum_below-zero (tickets_of b.outs) (length b.accounts) each in
    empty-list b.outs (omega (arith, zero_sum, tickets-sum (b.first + b.drawn) (length b.accounts) b.outs h.outs))

waits-by : (b : Book) → IsBook b → are_all_done b ≡ false → first_spent b ≡ None → nat_le 4096 b.stale ≡ false
    → (nat_lt (length b.outs) b.window ≡ false) ⊎ (wanted (length b.accounts) (is_done b) b.outs ≡ None) → MustWait b
waits-by b h undone unspent fresh why =
    let full = full-where-it-waits b h why in
    let some_open = open-where-undone b undone in
    record {
      full = full;
      some = some-out b.outs (omega (arith, full, some_open, h.window_some));
      unspent = record { few = unspent-below b unspent; fresh = leb-false 4096 b.stale fresh };
      some_open = some_open;
    }

-- what is known of each answer
is-next-by : (b : Book) (done : Bool) (spent : Option ℕ) (stale room : Bool) (want : Option ℕ) → IsBook b
    → are_all_done b ≡ done → first_spent b ≡ spent → nat_le 4096 b.stale ≡ stale
    → nat_lt (length b.outs) b.window ≡ room → wanted (length b.accounts) (is_done b) b.outs ≡ want
    → IsNext b (cond done Finished (unless_spent spent (cond stale Stale (cond room (start_or_wait want) Wait))))
is-next-by b true spent stale room want h d s t r w = record {
  all = λ job below. all_below-at (is_done b) (length b.accounts) job d below;
  none_out = none-out b h d;
  none_open = none-open b d;
}
is-next-by b false (Some job) stale room want h d s t r w =
    let found = found-below (λ job. nat_lt b.restarts (total (bad_of b job))) (length b.accounts) job s in
    record {
      known = found.0;
      over = ltb-true b.restarts (total (bad_of b job)) found.1;
      some_open = open-where-undone b
          d;
    }
is-next-by b false None true room want h d s t r w = record {
  few = unspent-below b s;
  many = omega (arith, h.stale, leb-true 4096 b.stale t);
  some_open = open-where-undone b d;
}
is-next-by b false None false false want h d s t r w = waits-by b h d s t (inl r)
is-next-by b false None false true None h d s t r w = waits-by b h d s t (inr w)
is-next-by b false None false true (Some job) h d s t r w = record {
  known = (is-wanted (length b.accounts) (is_done b) b.outs job w).known;
  is = w;
  room = ltb-true (length b.outs) b.window r;
  unspent = record { few = unspent-below b s; fresh = leb-false 4096 b.stale t };
  some_open = open-where-undone b d;
}

pub is-next : (b : Book) → IsBook b → IsNext b (next_of b)
unfolding next_of
is-next b h = is-next-by b (are_all_done b) (first_spent b) (nat_le 4096 b.stale) (nat_lt (length b.outs) b.window)
    (wanted (length b.accounts) (is_done b) b.outs) h refl refl refl refl refl
