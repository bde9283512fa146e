-- The entries of slots, listed in an order of the slots' numbers.
use Rattle.std.proofs.Common.{◌≡◌, ℕ, zero, suc, ◌<◌, List, [], ◌∷◌, ◌++◌, length, map, get_or, set, refl, sym, ◌∙◌, ap, subst, arith}
use Rattle.std.specs.List.{All, AllByRecursion, insert, remove}
use Rattle.std.specs.declared.cmp.Ordering.TheVariants.{Equal}
use Rattle.std.proofs.lemmas.Cmp.{tied_itself}
use Rattle.std.proofs.lemmas.List.{get_or-map, get_or-set_other, get_or-set_same, get_or_append_left, get_or_default, get_or_push, length-map}
use Rattle.std.proofs.lemmas.List.Elements.{recursion_from_All}
use Rattle.topk_heap.specs.Places.{RanksLast, entry_at, listed}
use Rattle.topk_heap.specs.Ranking.{IsAscending, key_cmp}
use Rattle.topk_heap.specs.declared.entry.Entry.{Entry}
use Rattle.topk_heap.proofs.Best.{apart}
use Rattle.topk_heap.proofs.Lists.{all_weaker}
use Rattle.topk_heap.proofs.Order.{key_total}

-- what a function gives of a list that is edited
map-insert : {X Y : Type 0} (f : X → Y) (xs : List X) (i : ℕ) (y : X) → map f (insert xs i y) ≡ insert (map f xs) i (f y)
map-insert f [] zero y = refl
map-insert f [] (suc i) y = refl
map-insert f (x ∷ xs) zero y = refl
map-insert f (x ∷ xs) (suc i) y = ap (λ (l : List _). f x ∷ l) (map-insert f xs i y)

map-remove : {X Y : Type 0} (f : X → Y) (xs : List X) (i : ℕ) → map f (remove xs i) ≡ remove (map f xs) i
map-remove f [] zero = refl
map-remove f [] (suc i) = refl
map-remove f (x ∷ xs) zero = refl
map-remove f (x ∷ xs) (suc i) = ap (λ (l : List _). f x ∷ l) (map-remove f xs i)

-- two functions that agree on a list, and on all of it but one place
map-same : {X Y : Type 0} (f g : X → Y) (xs : List X) → AllByRecursion (λ x. f x ≡ g x) xs → map f xs ≡ map g xs
map-same f g [] same = refl
map-same f g (x ∷ xs) same = λ k. same.0 k ∷ map-same f g xs same.1 k

map-but_one : {X Y : Type 0} (f g : X → Y) (xs : List X) (i : ℕ) (d : X) → i < length xs
    → AllByRecursion (λ x. f x ≡ g x) (remove xs i) → map f xs ≡ set (map g xs) i (f (get_or xs i d))
map-but_one f g [] i d within same = absurd (omega arith)
map-but_one f g (x ∷ xs) zero d within same = λ k. f x ∷ map-same f g xs same k
map-but_one f g (x ∷ xs) (suc i) d within same =
    λ k. same.0 k ∷ map-but_one f g xs i d (omega arith) same.1 k

all-from_map : {X Y : Type 0} (f : X → Y) (P : Y → Type 0) (xs : List X) → AllByRecursion P (map f xs)
    → AllByRecursion (λ x. P (f x)) xs
all-from_map f P [] h = tt
all-from_map f P (x ∷ xs) h = (h.0, all-from_map f P xs h.1)

-- the entry at a place
pub at_place : (slots : List Entry) (order : List ℕ) (k : ℕ) (c d : Entry) (n : ℕ) → All (λ slot. slot < length slots) order
    → k < length order → get_or (listed slots order) k c ≡ get_or slots (get_or order k n) d
at_place slots order k c d n below within =
    get_or-map (entry_at slots) order k n c within
    ∙ get_or_default slots (get_or order k n) _ d (below k n within)

pub at_slot : (slots : List Entry) (order : List ℕ) (k slot : ℕ) (c d : Entry)
    → All (λ number. number < length slots) order → k < length order → slot ≡ get_or order k 0
    → get_or (listed slots order) k c ≡ get_or slots slot d
at_slot slots order k slot c d below within same =
    at_place slots order k c d 0 below within ∙ ap (λ (n : ℕ). get_or slots n d) (sym same)

pub length-listed : (slots : List Entry) (order : List ℕ) → length (listed slots order) ≡ length order
length-listed slots order = length-map order (entry_at slots)

-- no other place has the same slot
others : (slots : List Entry) (order : List ℕ) (place n : ℕ) → IsAscending (listed slots order) → place < length order
    → AllByRecursion (λ slot. slot ≡ get_or order place n → ⊥) (remove order place)
others slots order place n ascending within =
    let here = get_or-map (entry_at slots) order place n (entry_at slots 0) within in
    let differ = apart (listed slots order) place (entry_at slots 0) (omega (arith, within, length-listed slots order)) ascending in
    all_weaker (λ (slot : ℕ). key_cmp (get_or (listed slots order) place (entry_at slots 0)) (entry_at slots slot) ≡ Equal → ⊥)
    (λ (slot : ℕ). slot ≡ get_or order place n → ⊥) (λ (slot : ℕ) differs same. differs (
    subst (λ (e : Entry). key_cmp e (entry_at slots slot) ≡ Equal)
    (ap (entry_at slots) same ∙ sym here) (tied_itself key_total (entry_at slots slot)))) (remove order place)
    (all-from_map (entry_at slots)
    (λ e. key_cmp (get_or (listed slots order) place (entry_at slots 0)) e ≡ Equal → ⊥) (remove order place)
    (subst (AllByRecursion (λ e. key_cmp (get_or (listed slots order) place (entry_at slots 0)) e ≡ Equal → ⊥))
    (sym (map-remove (entry_at slots) order place)) differ))

-- the other slots keep their entries where one is written
kept : (slots : List Entry) (order : List ℕ) (place n : ℕ) (e : Entry) → IsAscending (listed slots order)
    → place < length order
    → AllByRecursion (λ slot. entry_at (set slots (get_or order place n) e) slot ≡ entry_at slots slot)
    (remove order place)
kept slots order place n e ascending within =
    all_weaker _ _ (λ (slot : ℕ) differs. get_or-set_other slots (get_or order place n) slot e _ differs)
    (remove order place)
    (others slots order place n ascending within)

-- a slot is written: its place has the new entry
pub listed-set : (slots : List Entry) (order : List ℕ) (place n : ℕ) (e : Entry) → IsAscending (listed slots order)
    → place < length order → get_or order place n < length slots
    → listed (set slots (get_or order place n) e) order ≡ set (listed slots order) place e
listed-set slots order place n e ascending within inside =
    map-but_one _ (entry_at slots) order place n within (kept slots order place n e ascending within)
    ∙ ap (λ (d : Entry). set (listed slots order) place d) (get_or-set_same slots (get_or order place n) e _ inside)

-- a slot is written, and its number is moved to another place
pub listed-moved : (slots : List Entry) (order : List ℕ) (from n to : ℕ) (e : Entry) → IsAscending (listed slots order)
    → from < length order → get_or order from n < length slots
    → listed (set slots (get_or order from n) e) (insert (remove order from) to (get_or order from n))
    ≡ insert (remove (listed slots order) from) to e
listed-moved slots order from n to e ascending within inside =
    map-insert _ (remove order from) to (get_or order from n)
    ∙ (λ k. insert (map-same _ (entry_at slots) (remove order from) (kept slots order from n e ascending within) k) to
    (get_or-set_same slots (get_or order from n) e (entry_at [] 0) inside k))
    ∙ ap (λ (l : List Entry). insert l to e) (map-remove (entry_at slots) order from)

-- a slot is added, and its number put in at a place
pub listed-pushed : (slots : List Entry) (order : List ℕ) (place : ℕ) (e : Entry) → All (λ slot. slot < length slots) order
    → listed (slots ++ e ∷ []) (insert order place (length slots)) ≡ insert (listed slots order) place e
listed-pushed slots order place e below =
    map-insert _ order place (length slots)
    ∙ (λ k. insert
    (map-same _ (entry_at slots) order (all_weaker _ _
    (λ (slot : ℕ) under. get_or_append_left slots (e ∷ []) (entry_at [] 0) slot under) order (recursion_from_All _ order below)) k)
    place (get_or_push slots e (entry_at [] 0) (length slots) refl k))

-- the place of the slot that ranks last
pub listed_last : (slots : List Entry) (order : List ℕ) (slot place n : ℕ) → All (λ number. number < length slots) order
    → RanksLast slots slot → place < length order → get_or order place n ≡ slot → RanksLast (listed slots order) place
listed_last slots order slot place n below ranks within same = record {
  within = omega (arith, within, length-listed slots order);
  last = λ d k c inside.
      let short : k < length order = omega (arith, inside, length-listed slots order) in
      rw (at_place slots order place d d n below within, same, at_place slots order k c d n below short)
      (ranks.last d (get_or order k n) d (below k n short));
}
