-- A key's score, put into a list of entries.
use Rattle.std.proofs.Common.{◌≡◌, ℕ, ℤ, zero, suc, ◌+◌, ◌<◌, ◌≤◌, List, [], ◌∷◌, ◌++◌, length, map, get_or, set, take}
use Rattle.std.proofs.Common.{refl, sym, ◌∙◌, ap, arith, length-append}
use Rattle.std.specs.List.{AllByRecursion, filter, insert}
use Rattle.std.specs.List.Sorted.{IsStrictlySortedBy}
use Rattle.std.specs.Cmp.Lexicographic.{slice_cmp}
use Rattle.std.specs.declared.cmp.Ordering.TheVariants.{Less, Equal, Greater}
use Rattle.std.specs.Ordering.{is_lt, nat_cmp}
use Rattle.std.proofs.lemmas.Cmp.{nat_list_cmp_total, tied_back}
use Rattle.std.proofs.lemmas.List.Elements.{filter_passes, recursion_from_All}
use Rattle.std.proofs.lemmas.List.Kept.{IsStrictlySortedBy-filter}
use Rattle.topk_heap.specs.Ranking.{IsAscending, entry, is_below, key_cmp, with_score}
use Rattle.topk_heap.specs.declared.entry.Entry.{Entry}
use Rattle.topk_heap.proofs.Lists.{all_append, all_weaker, filter_all, filter_none, length-filter-apart}
use Rattle.flow_keys.proofs.KeyOrder.{greater_back, less_back}
use Rattle.topk_heap.proofs.Order.{key_total, less_from_is_lt}

-- the keys of all entries are above, or below, this one
abbrev pub AllAbove : List ℕ → List Entry → Type 0
AllAbove key entries = AllByRecursion (λ e. slice_cmp nat_cmp key e.key ≡ Less) entries

abbrev pub AllLesser : List ℕ → List Entry → Type 0
AllLesser key entries = AllByRecursion (λ e. slice_cmp nat_cmp e.key key ≡ Less) entries

-- a score put in before a list of greater keys, and behind a lesser key or the key itself
pub with_first : (entries : List Entry) (key : List ℕ) (score : ℤ) → AllAbove key entries
    → with_score entries key score ≡ entry key score ∷ entries
unfolding with_score
with_first entries key score above =
    let below = filter_none (λ (e : Entry). is_below e.key key) entries
    (all_weaker _ _ (λ (e : Entry) less. ap is_lt (greater_back key e.key less)) entries above) in
    let rest = filter_all (λ (e : Entry). is_below key e.key) entries
    (all_weaker _ _ (λ (e : Entry) less. ap is_lt less) entries above) in
    rw (below, rest) refl

pub with_lesser : (e : Entry) (rest : List Entry) (key : List ℕ) (score : ℤ) → slice_cmp nat_cmp e.key key ≡ Less
    → with_score (e ∷ rest) key score ≡ e ∷ with_score rest key score
unfolding with_score
with_lesser e rest key score less = rw (less, greater_back e.key key less) refl

pub with_equal : (e : Entry) (rest : List Entry) (key : List ℕ) (score : ℤ) → slice_cmp nat_cmp e.key key ≡ Equal
    → with_score (e ∷ rest) key score ≡ with_score rest key score
unfolding with_score
with_equal e rest key score same = rw (same, tied_back nat_list_cmp_total e.key key same) refl

-- the keys behind an entry of the key itself, and from an entry of a greater key on
pub above_equal : (e : Entry) (rest : List Entry) (key : List ℕ) → slice_cmp nat_cmp e.key key ≡ Equal
    → AllAbove e.key rest → AllAbove key rest
above_equal e rest key same above =
    all_weaker _ _ (λ (y : Entry) less. sym (nat_list_cmp_total.congr e.key key y.key same) ∙ less) rest above

pub above_greater : (e : Entry) (rest : List Entry) (key : List ℕ) → slice_cmp nat_cmp e.key key ≡ Greater
    → AllAbove e.key rest → AllAbove key (e ∷ rest)
above_greater e rest key greater above =
    let first = less_back e.key key greater in
    (first, all_weaker _ _ (λ (y : Entry) less. nat_list_cmp_total.trans key e.key y.key first less) rest above)

-- the key's entry is written over
pub with_score_at : (entries : List Entry) (key : List ℕ) (score : ℤ) (i : ℕ) (d : Entry) → IsAscending entries
    → i < length entries → AllLesser key (take i entries) → slice_cmp nat_cmp (get_or entries i d).key key ≡ Equal
    → set entries i (entry key score) ≡ with_score entries key score
unfolding IsStrictlySortedBy with_score
with_score_at [] key score i d ascending within lesser same = absurd (omega arith)
with_score_at (e ∷ rest) key score zero d ascending within lesser same =
    sym (with_equal e rest key score same ∙ with_first rest key score (above_equal e rest key same ascending.0))
with_score_at (e ∷ rest) key score (suc i) d ascending within lesser same =
    ap (λ (xs : List Entry). e ∷ xs) (with_score_at rest key score i d ascending.1 (omega arith) lesser.1 same)
    ∙ sym (with_lesser e rest key score lesser.0)

-- a new entry is put in
pub with_score_before : (entries : List Entry) (key : List ℕ) (score : ℤ) (i : ℕ) → IsAscending entries
    → i ≤ length entries → AllLesser key (take i entries)
    → (i < length entries → (d : Entry) → slice_cmp nat_cmp (get_or entries i d).key key ≡ Greater)
    → insert entries i (entry key score) ≡ with_score entries key score
unfolding IsStrictlySortedBy with_score
with_score_before [] key score zero ascending within lesser greater = refl
with_score_before [] key score (suc i) ascending within lesser greater = absurd (omega arith)
with_score_before (e ∷ rest) key score zero ascending within lesser greater =
    sym (with_first (e ∷ rest) key score (above_greater e rest key (greater (omega arith) e) ascending.0))
with_score_before (e ∷ rest) key score (suc i) ascending within lesser greater =
    ap (λ (xs : List Entry). e ∷ xs)
    (with_score_before rest key score i ascending.1 (omega arith) lesser.1 (λ inside d. greater (omega arith) d))
    ∙ sym (with_lesser e rest key score lesser.0)

joined : (front : List Entry) (w : Entry) (back : List Entry) → IsAscending front
    → AllByRecursion (λ e. key_cmp e w ≡ Less) front → AllByRecursion (λ e. key_cmp w e ≡ Less) back → IsAscending back
    → IsAscending (front ++ w ∷ back)
unfolding IsStrictlySortedBy
joined [] w back first below above last = (above, last)
joined (e ∷ front) w back first below above last = (
  all_append _ front (w ∷ back) first.0 (
    below.0,
    all_weaker _ _
        (λ (y : Entry) less. key_total.trans e w y below.0 less) back above,
  ),
  joined front w back first.1 below.1 above
      last,
)

-- the order of the keys stays
pub IsAscending-with_score : (entries : List Entry) (key : List ℕ) (score : ℤ) → IsAscending entries
    → IsAscending (with_score entries key score)
unfolding with_score
IsAscending-with_score entries key score ascending =
    let front = filter (λ (e : Entry). is_below e.key key) entries in
    let back = filter (λ (e : Entry). is_below key e.key) entries in
    joined front (entry key score) back
    (IsStrictlySortedBy-filter key_cmp _ entries ascending)
    (all_weaker _ _ (λ (e : Entry) passes. less_from_is_lt _ passes) front
    (recursion_from_All _ front (filter_passes _ entries)))
    (all_weaker _ _ (λ (e : Entry) passes. less_from_is_lt _ passes) back
    (recursion_from_All _ back (filter_passes _ entries)))
    (IsStrictlySortedBy-filter key_cmp _ entries ascending)

-- at most one entry more
pub length-with_score-le : (entries : List Entry) (key : List ℕ) (score : ℤ)
    → length (with_score entries key score) ≤ length entries + 1
unfolding with_score
length-with_score-le entries key score =
    let apart = length-filter-apart (λ (e : Entry). is_below e.key key) (λ (e : Entry). is_below key e.key)
    (λ e lesser. ap is_lt (greater_back e.key key (less_from_is_lt _ lesser))) entries in
    simp length-append (omega (arith, apart))

all_keys : (P : List ℕ → Type 0) (entries : List Entry) → AllByRecursion (λ (e : Entry). P e.key) entries
    → AllByRecursion P (map (λ (e : Entry). e.key) entries)
all_keys P [] h = tt
all_keys P (e ∷ rest) h = (h.0, all_keys P rest h.1)

-- the keys of a list that ascends by key
pub IsStrictlySortedBy-keys : (entries : List Entry) → IsAscending entries
    → IsStrictlySortedBy (slice_cmp nat_cmp) (map (λ (e : Entry). e.key) entries)
unfolding IsStrictlySortedBy
IsStrictlySortedBy-keys [] ascending = tt
IsStrictlySortedBy-keys (e ∷ rest) ascending =
    (all_keys (λ key. slice_cmp nat_cmp e.key key ≡ Less) rest ascending.0, IsStrictlySortedBy-keys rest ascending.1)
