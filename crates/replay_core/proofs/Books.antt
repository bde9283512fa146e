-- A book stays a book at each event.
use Rattle.std.proofs.Common.{◌≡◌, ◌≢◌, ℕ, ◌+◌, ◌*◌, ◌≤◌, ◌<◌, Bool, true, false, inl, inr, List, length, length-set, set, set-set, get_or-set_same, get_or-set_other, refl, sym, ◌∙◌, ap, subst, arith}
use Rattle.std.specs.Prelude.{sum_by}
use Rattle.std.proofs.lemmas.Bool.{cases_eq, true≢false}
use Rattle.std.proofs.lemmas.List.Sums.{sum_by-set, sum_by-le}
use Rattle.std.proofs.lemmas.List.Elements.{All-from_get_or}
use Rattle.replay_core.specs.Attempts.{tickets_of}
use Rattle.replay_core.specs.Book.{account_at, new_account, with_account, count_drawn, count_bad, is_now_done, total, more}
use Rattle.replay_core.specs.Kept.{IsAccount}
use Rattle.replay_core.specs.declared.attempt.Attempt.{Attempt}
use Rattle.replay_core.specs.declared.account.Account.{Account}
use Rattle.replay_core.specs.declared.bad.Bad.{Bad}
use Rattle.replay_core.specs.declared.bad.Kind.{Kind}
use Rattle.replay_core.specs.declared.bad.Kind.TheVariants.{Start, Feed, Died, Reply}

pub account-here : (accounts : List Account) (job : ℕ) (change : Account → Account) → job < length accounts
    → account_at (with_account accounts job change) job ≡ change (account_at accounts job)
unfolding with_account
account-here accounts job change known = get_or-set_same accounts job (change (account_at accounts job)) new_account
    known

pub account-other : (accounts : List Account) (job j : ℕ) (change : Account → Account) → j ≢ job
    → account_at (with_account accounts job change) j ≡ account_at accounts j
unfolding with_account
account-other accounts job j change apart = get_or-set_other accounts job j (change (account_at accounts job))
    new_account apart

pub length-with : (accounts : List Account) (job : ℕ) (change : Account → Account)
    → length (with_account accounts job change) ≡ length accounts
unfolding with_account
length-with accounts job change = length-set accounts job (change (account_at accounts job))

pub drawn-with : (accounts : List Account) (job : ℕ) (change : Account → Account) → job < length accounts
    → sum_by (λ a. a.drawn) (with_account accounts job change) + (account_at accounts job).drawn ≡ sum_by (λ a. a.drawn)
    accounts + (change (account_at accounts job)).drawn
unfolding with_account
drawn-with accounts job change known = sum_by-set (λ (a : Account). a.drawn) accounts job
    (change (account_at accounts job)) new_account known

pub total-more : (kind : Kind) (bad : Bad) → total (more kind bad) ≡ total bad + 1
total-more Start bad = omega arith
total-more Feed bad = omega arith
total-more Died bad = omega arith
total-more Reply bad = omega arith

-- one account at each event
pub account-started : (r n : ℕ) (a : Account) → a.done ≡ false → n ≤ 1 → total a.bad ≤ r → IsAccount r false n a
    → IsAccount r false (n + 1) (count_drawn a)
account-started r n a undone few unspent h = record {
  few = omega (arith, h.all undone refl);
  most = omega (arith, h.most);
  all = λ _ _. omega (arith, h.all undone refl);
  two = omega arith;
  none = λ done. absurd (true≢false (sym done ∙ undone));
}

pub account-start_failed : (r n : ℕ) (a : Account) → a.done ≡ false → n ≤ 1 → total a.bad ≤ r → IsAccount r false n a
    → IsAccount r false n (count_bad Start (count_drawn a))
account-start_failed r n a undone few unspent h = record {
  few = omega (arith, h.all undone refl);
  most = omega (arith, h.most);
  all = λ _ _. omega (arith, h.all undone refl);
  two = h.two;
  none = λ done. absurd (true≢false (sym done ∙ undone));
}

pub account-bad : (r : ℕ) (s : Bool) (n : ℕ) (kind : Kind) (a : Account) → IsAccount r s (n + 1) a
    → IsAccount r s n (count_bad kind a)
account-bad r s n kind a h = record {
  few = h.few;
  most = omega (arith, h.most, total-more kind a.bad);
  all = λ undone running. omega (arith, h.all undone running, total-more kind a.bad);
  two = omega (arith, h.two);
  none = λ done. absurd (omega (arith, h.none done));
}

pub account-first : (r : ℕ) (s : Bool) (n m : ℕ) (a : Account) → m ≡ 0 → IsAccount r s n a
    → IsAccount r s m (is_now_done a)
account-first r s n m a gone h = record {
  few = h.few;
  most = omega (arith, h.most, gone);
  all = λ undone. absurd (true≢false undone);
  two = omega (arith, gone);
  none = λ _. gone;
}

-- a ticket was stopped, of this job or another
pub account-stopped : (r : ℕ) (s : Bool) (n m : ℕ) (a : Account) → m ≤ n → IsAccount r s n a → IsAccount r true m a
account-stopped r s n m a fewer h = record {
  few = h.few;
  most = omega (arith, h.most);
  all = λ _ stopping. absurd (true≢false stopping);
  two = omega (arith, h.two);
  none = λ done. omega (arith, h.none done);
}

-- all accounts, where that of one job changed
pub accounts-change : (r : ℕ) (s : Bool) (accounts : List Account) (job : ℕ) (change : Account → Account)
    (outs news : List Attempt) → job < length accounts
    → ((j : ℕ) → j < length accounts → IsAccount r s (tickets_of outs j) (account_at accounts j))
    → ((j : ℕ) → j ≢ job → tickets_of news j ≡ tickets_of outs j)
    → (IsAccount r s (tickets_of outs job) (account_at accounts job)
    → IsAccount r s (tickets_of news job) (change (account_at accounts job))) → (j : ℕ)
    → j < length (with_account accounts job change) → IsAccount r s (tickets_of news j) (account_at
    (with_account accounts job change) j)
accounts-change r s accounts job change outs news known each others here j below = elim (cases_eq j job) [
  | inl same ↦ subst (λ (k : ℕ). IsAccount r s (tickets_of news k) (account_at (with_account accounts job change) k))
      (sym same)
      (subst (λ (a : Account). IsAccount r s (tickets_of news job) a) (sym (account-here accounts job change known))
      (here (each job known)))
  | inr apart ↦
      let before = each j (omega (arith, length-with accounts job change, below)) in
      subst (λ (n : ℕ). IsAccount r s n (account_at (with_account accounts job change) j)) (sym (others j apart))
      (subst (λ (a : Account). IsAccount r s (tickets_of outs j) a) (sym (account-other accounts job j change apart))
      before)
]

-- no more tickets are drawn than this
pub drawn-bound : (r : ℕ) (s : Bool) (accounts : List Account) (outs : List Attempt)
    → ((j : ℕ) → j < length accounts → IsAccount r s (tickets_of outs j) (account_at accounts j))
    → sum_by (λ a. a.drawn) accounts ≤ length accounts * (r + 2)
drawn-bound r s accounts outs each = sum_by-le (λ (a : Account). a.drawn) (r + 2) accounts
    (All-from_get_or (λ (a : Account). a.drawn ≤ r + 2) accounts new_account (λ i below. (each i below).few))

-- two changes of one account are one
pub with-twice : (accounts : List Account) (job : ℕ) (f g : Account → Account) → job < length accounts
    → with_account (with_account accounts job f) job g ≡ with_account accounts job (λ a. g (f a))
unfolding with_account
with-twice accounts job f g known =
    ap (λ (a : Account). set (set accounts job (f (account_at accounts job))) job (g a))
    (get_or-set_same accounts job (f (account_at accounts job)) new_account known)
    ∙ set-set accounts job (f (account_at accounts job)) (g (f (account_at accounts job)))

-- what a change of an account keeps is kept at each job
pub part-kept : {X : Type 0} (part : Account → X) (accounts : List Account) (job : ℕ) (change : Account → Account)
    → ((a : Account) → part (change a) ≡ part a) → job < length accounts → (j : ℕ)
    → part (account_at (with_account accounts job change) j) ≡ part (account_at accounts j)
part-kept part accounts job change keeps known j = elim (cases_eq j job) [
  | inl same ↦ subst (λ (k : ℕ). part (account_at (with_account accounts job change) k) ≡ part (account_at accounts k))
      (sym same)
      (ap part (account-here accounts job change known) ∙ keeps (account_at accounts job))
  | inr apart ↦ ap part (account-other accounts job j change apart)
]
