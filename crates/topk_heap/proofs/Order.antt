-- The two orders of entries: by rank, and by key.
use Rattle.std.proofs.Common.{◌≡◌, ℕ, ◌+◌, ◌<◌, true, false, List, get_or, refl, ◌∙◌, ap, arith, below_more}
use Rattle.std.specs.Cmp.{IsTotalOrder}
use Rattle.std.specs.declared.cmp.Ordering.{Ordering}
use Rattle.std.specs.declared.cmp.Ordering.TheVariants.{Less, Equal, Greater}
use Rattle.std.specs.Ordering.{is_lt, int_cmp, ordering_then, ordering_reverse}
use Rattle.std.proofs.lemmas.Cmp.{then_total, back_total, on_total, int_cmp_total, nat_list_cmp_total, tied_itself}
use Rattle.std.proofs.lemmas.Cmp.{alike_right, tied_back}
use Rattle.topk_heap.specs.Ranking.{rank_cmp, key_cmp, ranks_before}
use Rattle.topk_heap.specs.declared.entry.Entry.{Entry}

-- both are total
pub rank_total : IsTotalOrder rank_cmp
rank_total =
    then_total (back_total (on_total (λ (e : Entry). e.score) int_cmp_total))
    (on_total (λ (e : Entry). e.key) nat_list_cmp_total)

pub key_total : IsTotalOrder key_cmp
key_total = on_total (λ (e : Entry). e.key) nat_list_cmp_total

-- what the tests of an order say
pub less_from_is_lt : (o : Ordering) → is_lt o ≡ true → o ≡ Less
less_from_is_lt Less h = refl
less_from_is_lt Equal h = cc
less_from_is_lt Greater h = cc

pub not_before_itself : (e : Entry) → ranks_before e e ≡ false
not_before_itself e = ap is_lt (tied_itself rank_total e)

not_is_lt : (o : Ordering) → (o ≡ Less → ⊥) → is_lt o ≡ false
not_is_lt Less h = absurd (h refl)
not_is_lt Equal h = refl
not_is_lt Greater h = refl

-- what ranks behind x and isn't ahead of z
pub not_before_more : (x y z : Entry) → ranks_before x y ≡ true → ranks_before x z ≡ false → ranks_before y z ≡ false
not_before_more x y z first behind =
    not_is_lt (rank_cmp y z)
    (λ less. let e = ap is_lt (rank_total.trans x y z (less_from_is_lt (rank_cmp x y) first) less) in cc)

tied_either : (o back : Ordering) → back ≡ ordering_reverse o → is_lt o ≡ false → is_lt back ≡ false → o ≡ Equal
tied_either Less back e first second = cc
tied_either Equal back e first second = refl
tied_either Greater back e first second = let k = ap is_lt e in cc

second_equal : (o p : Ordering) → ordering_then o p ≡ Equal → p ≡ Equal
second_equal Less p h = cc
second_equal Equal p h = h
second_equal Greater p h = cc

is_lt_back : (o back : Ordering) → back ≡ ordering_reverse o → is_lt back ≡ false → (o ≡ Equal → ⊥) → is_lt o ≡ true
is_lt_back Less back e h apart = refl
is_lt_back Equal back e h apart = absurd (apart refl)
is_lt_back Greater back e h apart = let k = ap is_lt e in cc

-- of two different keys one ranks before the other
pub before_if_not : (x y : Entry) → (key_cmp x y ≡ Equal → ⊥) → ranks_before x y ≡ false → ranks_before y x ≡ true
before_if_not x y apart behind =
    is_lt_back (rank_cmp y x) (rank_cmp x y) (rank_total.antisymm x y) behind
    (λ same. apart (tied_back key_total y x (second_equal (int_cmp x.score y.score) (key_cmp y x) same)))

-- what isn't ahead of y, which isn't ahead of z
pub not_before_either : (x y z : Entry) → ranks_before x y ≡ false → ranks_before y z ≡ false → ranks_before x z ≡ false
not_before_either x y z first second =
    not_is_lt (rank_cmp x z) (λ less.
    let ahead : ranks_before x z ≡ true = ap is_lt less in
    let behind = not_before_more x z y ahead first in
    let tied = tied_either (rank_cmp y z) (rank_cmp z y) (rank_total.antisymm z y) second behind in
    let e = ap is_lt (alike_right rank_total y z x tied ∙ less) in cc)

-- of the entries before `upto` none ranks behind the one at `place`
pub record IsLastSoFar (entries : List Entry) (place upto : ℕ) : Type 0 where
  pub within : place < upto
  pub last : (k : ℕ) (d : Entry) → k < upto → ranks_before (get_or entries place d) (get_or entries k d) ≡ false

-- the first entry is the last one so far
pub last_of_one : (entries : List Entry) → IsLastSoFar entries 0 1
last_of_one entries = record {
  within = omega arith;
  last = λ k d below. let first : k ≡ 0 = omega arith in rw first (not_before_itself (get_or entries 0 d));
}

-- one more entry, which the last one doesn't rank before, or does
pub last_stays : (entries : List Entry) (place upto : ℕ) → IsLastSoFar entries place upto
    → ((d : Entry) → ranks_before (get_or entries place d) (get_or entries upto d) ≡ false)
    → IsLastSoFar entries place (upto + 1)
last_stays entries place upto so_far next = record {
  within = omega (arith, so_far.within);
  last = λ k d below. below_more (λ (j : ℕ). ranks_before (get_or entries place d) (get_or entries j d) ≡ false) _
      (λ j under. so_far.last j d under) (next d) k below;
}

pub last_moves : (entries : List Entry) (place upto : ℕ) → IsLastSoFar entries place upto
    → ((d : Entry) → ranks_before (get_or entries place d) (get_or entries upto d) ≡ true)
    → IsLastSoFar entries upto (upto + 1)
last_moves entries place upto so_far next = record {
  within = omega arith;
  last = λ k d below. below_more (λ (j : ℕ). ranks_before (get_or entries upto d) (get_or entries j d) ≡ false) _
      (λ j under. not_before_more (get_or entries place d) (get_or entries upto d) (get_or entries j d) (next d)
      (so_far.last j d under))
      (not_before_itself (get_or entries upto d)) k below;
}
