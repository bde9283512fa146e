-- Which entries are the best, of few and of one too many.
use Rattle.std.proofs.Common.{◌≡◌, ℕ, zero, suc, ◌+◌, ◌<◌, ◌≤◌, true, false, List, [], ◌∷◌, length, map, get_or, ap}
use Rattle.std.proofs.Common.{arith}
use Rattle.std.specs.List.{AllByRecursion, remove}
use Rattle.std.specs.List.Sorted.{IsStrictlySortedBy}
use Rattle.std.specs.declared.cmp.Ordering.{Ordering}
use Rattle.std.specs.declared.cmp.Ordering.TheVariants.{Less, Equal}
use Rattle.std.proofs.lemmas.Bool.{lt-ltb, le-ltb, lt-leb, le-leb}
use Rattle.std.proofs.lemmas.Cmp.{tied_back}
use Rattle.std.proofs.lemmas.List.Edits.{length-remove}
use Rattle.std.proofs.lemmas.List.Kept.{IsStrictlySortedBy-filter}
use Rattle.std.proofs.lemmas.List.Elements.{recursion_from_All}
use Rattle.topk_heap.specs.Places.{RanksLast}
use Rattle.topk_heap.specs.Ranking.{IsAscending, best, dropped_keys, key_cmp, rank, ranks_before}
use Rattle.topk_heap.specs.declared.entry.Entry.{Entry}
use Rattle.topk_heap.proofs.Lists.{all_both, all_get_or, all_remove, all_weaker, count_all, count_below, count_but_one}
use Rattle.topk_heap.proofs.Lists.{filter_all, filter_but_one, filter_none, filter_only_one}
use Rattle.topk_heap.proofs.Order.{before_if_not, key_total, not_before_itself}

-- fewer entries rank before an entry than there are
rank_below : (entries : List Entry) (k : ℕ) (d : Entry) → k < length entries
    → rank entries (get_or entries k d) < length entries
rank_below entries k d within = count_below _ entries k d within (not_before_itself (get_or entries k d))

-- few entries all rank among the first
pub best_of_few : (size : ℕ) (entries : List Entry) → length entries ≤ size → best size entries ≡ entries
unfolding best
best_of_few size entries few =
    filter_all _ entries
    (recursion_from_All _ entries (λ k d within. lt-ltb _ _ (omega (arith, rank_below entries k d within))))

pub dropped_of_few : (size : ℕ) (entries : List Entry) → length entries ≤ size → dropped_keys size entries ≡ []
unfolding dropped_keys
dropped_of_few size entries few =
    ap (λ (es : List Entry). map (λ e. e.key) es)
    (filter_none _ entries
    (recursion_from_All _ entries (λ k d within. lt-leb _ _ (omega (arith, rank_below entries k d within)))))

-- one entry more than may be kept, and the place of the one that ranks last
pub record OneTooMany (size : ℕ) (entries : List Entry) (place : ℕ) : Type 0 where
  pub ascending : IsAscending entries
  pub count : length entries ≡ size + 1
  pub last : RanksLast entries place

pub not_equal : (o : Ordering) → o ≡ Less → o ≡ Equal → ⊥
not_equal o less same = cc

-- each other key differs
pub apart : (entries : List Entry) (i : ℕ) (d : Entry) → i < length entries → IsAscending entries
    → AllByRecursion (λ e. key_cmp (get_or entries i d) e ≡ Equal → ⊥) (remove entries i)
unfolding IsStrictlySortedBy
apart [] i d within ascending = absurd (omega arith)
apart (e ∷ rest) zero d within ascending =
    all_weaker _ _ (λ (y : Entry) less. not_equal (key_cmp e y) less) rest ascending.0
apart (e ∷ rest) (suc i) d within ascending = (
  λ same. not_equal _ (all_get_or _ rest i d (omega arith) ascending.0)
      (tied_back key_total (get_or rest i d) e same),
  apart rest i d (omega arith) ascending.1,
)

-- each other entry ranks before the last
others : (entries : List Entry) (i : ℕ) (d : Entry) → IsAscending entries → RanksLast entries i
    → AllByRecursion (λ e. ranks_before e (get_or entries i d) ≡ true) (remove entries i)
others entries i d ascending last =
    all_both _ _ _ (λ (e : Entry) differs behind. before_if_not (get_or entries i d) e differs behind)
    (remove entries i)
    (apart entries i d last.within ascending)
    (all_remove _ entries i (recursion_from_All _ entries (last.last d)))

-- so many rank before the last, and fewer before each other
rank_of_last : {size : ℕ} {entries : List Entry} {i : ℕ} (d : Entry) → OneTooMany size entries i
    → rank entries (get_or entries i d) ≡ size
rank_of_last {size} {entries} {i} d many =
    let rest = count_but_one (λ b. ranks_before b (get_or entries i d)) entries i d many.last.within
    (not_before_itself (get_or entries i d)) in
    let all = count_all (λ b. ranks_before b (get_or entries i d)) (remove entries i)
    (others entries i d many.ascending many.last) in
    omega (arith, rest, all, length-remove entries i many.last.within, many.count)

rank_of_others : {size : ℕ} {entries : List Entry} {i : ℕ} (d : Entry) → OneTooMany size entries i
    → AllByRecursion (λ e. rank entries e < size) (remove entries i)
rank_of_others {size} {entries} {i} d many = recursion_from_All _ (remove entries i) (λ k c within.
    let e = get_or (remove entries i) k c in
    let behind = all_get_or (λ b. ranks_before (get_or entries i d) b ≡ false) (remove entries i) k c within
    (all_remove _ entries i (recursion_from_All _ entries (many.last.last d))) in
    let rest = count_but_one (λ b. ranks_before b e) entries i d many.last.within behind in
    let below = count_below (λ b. ranks_before b e) (remove entries i) k c within (not_before_itself e) in
    omega (arith, rest, below, length-remove entries i many.last.within, many.count))

-- all but the last are the best, and the last is dropped
pub best_of_many : {size : ℕ} {entries : List Entry} {i : ℕ} (d : Entry) → OneTooMany size entries i
    → best size entries ≡ remove entries i
unfolding best
best_of_many {size} {entries} {i} d many =
    filter_but_one _ entries i d many.last.within
    (all_weaker _ _ (λ (e : Entry) below. lt-ltb _ _ below) (remove entries i) (rank_of_others d many))
    (le-ltb _ _ (omega (arith, rank_of_last d many)))

pub dropped_of_many : {size : ℕ} {entries : List Entry} {i : ℕ} (d : Entry) → OneTooMany size entries i
    → dropped_keys size entries ≡ (get_or entries i d).key ∷ []
unfolding dropped_keys
dropped_of_many {size} {entries} {i} d many =
    ap (λ (es : List Entry). map (λ e. e.key) es)
    (filter_only_one _ entries i d many.last.within
    (all_weaker _ _ (λ (e : Entry) below. lt-leb _ _ below) (remove entries i) (rank_of_others d many))
    (le-leb _ _ (omega (arith, rank_of_last d many))))

-- the best stay in order
pub IsAscending-best : (size : ℕ) (entries : List Entry) → IsAscending entries → IsAscending (best size entries)
unfolding best
IsAscending-best size entries ascending = IsStrictlySortedBy-filter key_cmp _ entries ascending
