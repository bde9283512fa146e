-- The keys of a heap, and their bytes.
use Rattle.std.proofs.Common.{◌≡◌, ◌<◌, ◌≤◌, ◌+◌, ◌*◌, ◌^◌, ℕ, zero, suc, List, [], ◌∷◌, ◌++◌, length, flat_map, get_or, take, drop, true, refl, sym, ◌∙◌, ap, arith, length-drop}
use Rattle.std.specs.List.{AllByRecursion}
use Rattle.std.specs.List.Sorted.{IsStrictlySortedBy}
use Rattle.std.specs.Cmp.Lexicographic.{slice_cmp}
use Rattle.std.specs.Ordering.{nat_cmp, is_lt}
use Rattle.std.specs.declared.cmp.Ordering.{Ordering}
use Rattle.std.specs.declared.cmp.Ordering.TheVariants.{Less, Equal, Greater}
use Rattle.std.proofs.lemmas.Cmp.{nat_list_cmp_total}
use Rattle.std.proofs.lemmas.List.{drop_all, drop-drop, take-append-drop, length-take-le, get_or-take}
use Rattle.std.proofs.lemmas.List.Elements.{All-take, All-drop, All-get_or, All-from_recursion}
use Rattle.std.proofs.lemmas.List.FromFn.{fill_by_all}
use Rattle.byteorder.specs.Endian.{little_bytes, little_number}
use Rattle.byte_format.specs.Keys.{key_bytes, key_words, word_at}
use Rattle.std.proofs.lemmas.List.Elements.{recursion_from_All}
use Rattle.byte_format.proofs.Keys as keys
use Rattle.byte_format.proofs.Keys.{key_back, words_small}
use Rattle.flow_keys.specs.Key.{IsKey, is_valid}
use Rattle.reply_format.specs.Places.{is_above}
use Rattle.reply_format.proofs.Numbers.{AreBytes}

-- a key's bytes, and the key of them
pub length-key_bytes : (words : List ℕ) → length (key_bytes words) ≡ 4 * length words
unfolding key_bytes
length-key_bytes [] = refl
length-key_bytes (w ∷ words) = omega (arith, length-key_bytes words)

pub key_read : (words : List ℕ) → IsKey words → key_words (key_bytes words) ≡ words
key_read words is = keys.key_read words is.size (recursion_from_All (λ word. word < 2 ^ 32) words is.each)

pub bytes_read : (b : List ℕ) → length b ≡ 44 → AreBytes b → key_bytes (key_words b) ≡ b
bytes_read b size low = key_back b size low

pub read_key : (b : List ℕ) → length b ≡ 44 → AreBytes b → is_valid (key_words b) ≡ true → IsKey (key_words b)
unfolding key_words
read_key b size low valid = record { size = refl; each = words_small b low; valid = valid }

-- keys in ascending order
abbrev pub AreAscending : List (List ℕ) → Type 0
AreAscending keys = IsStrictlySortedBy (slice_cmp nat_cmp) keys

pub ascending_none : AreAscending []
unfolding IsStrictlySortedBy
ascending_none = tt

less_is : (o : Ordering) → is_lt o ≡ true → o ≡ Less
less_is Less is = refl
less_is Equal is = cc
less_is Greater is = cc

-- the next of them is above those before it
pub above_next : (keys : List (List ℕ)) (key : List ℕ) (more : List (List ℕ)) → AreAscending (keys ++ key ∷ more)
    → is_above keys key ≡ true
unfolding is_above IsStrictlySortedBy
above_next [] key more sorted = refl
above_next (last ∷ []) key more sorted = ap is_lt sorted.0.0
above_next (first ∷ next ∷ keys) key more sorted = above_next (next ∷ keys) key more sorted.1

each_push : (P : List ℕ → Type 0) (keys : List (List ℕ)) (key : List ℕ) → AllByRecursion P keys → P key
    → AllByRecursion P (keys ++ key ∷ [])
each_push P [] key each is = (is, tt)
each_push P (x ∷ keys) key each is = (each.0, each_push P keys key each.1 is)

each_last : (P : List ℕ → Type 0) (keys : List (List ℕ)) (key : List ℕ) → AllByRecursion P (keys ++ key ∷ []) → P key
each_last P [] key each = each.0
each_last P (x ∷ keys) key each = each_last P keys key each.1

-- and one above all
pub ascending_push : (keys : List (List ℕ)) (key : List ℕ) → AreAscending keys → is_above keys key ≡ true
    → AreAscending (keys ++ key ∷ [])
unfolding is_above IsStrictlySortedBy
ascending_push [] key sorted above = (tt, tt)
ascending_push (last ∷ []) key sorted above = ((less_is (slice_cmp nat_cmp last key) above, tt), (tt, tt))
ascending_push (first ∷ next ∷ keys) key sorted above =
    let others : AreAscending (next ∷ (keys ++ key ∷ [])) = ascending_push (next ∷ keys) key sorted.1 above in
    let last : slice_cmp nat_cmp next key ≡ Less = each_last (λ y. slice_cmp nat_cmp next y ≡ Less) keys key others.0 in
    let far : slice_cmp nat_cmp first key ≡ Less = nat_list_cmp_total.trans first next key sorted.0.0 last in
    (each_push (λ y. slice_cmp nat_cmp first y ≡ Less) (next ∷ keys) key sorted.0 far, others)
