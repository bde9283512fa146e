-- Prefixes of a whole address, and of none of its bits.
use Rattle.std.proofs.Common.{◌≡◌, ◌↔◌, ℕ, ◌+◌, ◌*◌, ◌^◌, ◌<◌, ◌==◌, ◌&&◌, Bool, true, List, [], ◌∷◌, length, slice_index, Ok, refl, rules, sym, ap, ◌∙◌, arith, ⊎_elim}
use Rattle.std.specs.List.{All}
use Rattle.std.proofs.lemmas.Bool.Decides.{nat_tests}
use Rattle.std.proofs.lemmas.Bool.{cases_lt}
use Rattle.std.proofs.lemmas.List.{get_or_past}
use borrow.Author.Tests.{eq-eqb, ne_eqb}
use Rattle.flow_keys.specs.Key.{IsKey}
use Rattle.flow_keys.specs.Prefix.{Seen, HasAddress, address_number, address_of, first_bits, family_bits, first_word, holds, prefix_of, words_from, whole_prefix, whole_text}
use Rattle.flow_keys.specs.declared.side.Side.{Side}
use Rattle.flow_keys.specs.declared.side.Side.TheVariants.{Source, Destination}
use Rattle.flow_keys.proofs.AddressTexts.{whole_ipv4, whole_ipv6}
use Rattle.flow_keys.proofs.OneText.{IsShort, families, word_fits}

-- the unused words of a key of family 4
record HasOneWord (key : List ℕ) (at : ℕ) : Type 0 where
  second : slice_index key (at + 1) ≡ 0
  third : slice_index key (at + 2) ≡ 0
  fourth : slice_index key (at + 3) ≡ 0

one_word : (key : List ℕ) (side : Side) → IsShort key → HasOneWord key (first_word side)
one_word key Source short = record { second = short.at_2; third = short.at_3; fourth = short.at_4 }
one_word key Destination short = record { second = short.at_6; third = short.at_7; fourth = short.at_8 }

short_reads : (key : List ℕ) (side : Side) → IsKey key → IsShort key
    → prefix_of (whole_text key side) ≡ Ok (whole_prefix key side)
short_reads key side is short =
    let at = first_word side in
    let word = slice_index key at in
    let four = eq-eqb (slice_index key 0) 4 short.family in
    let rest = one_word key side short in
    let words : word ∷ 0 ∷ 0 ∷ 0 ∷ [] ≡ address_of key side =
    λ i. word ∷ sym rest.second i ∷ sym rest.third i ∷ sym rest.fourth i ∷ [] in
    rw four (whole_ipv4 word (word_fits key is at)
    ∙ (λ i. Ok (record { family = sym short.family i; words = words i; bits = 32 })))

long_reads : (key : List ℕ) (side : Side) → IsKey key → slice_index key 0 ≡ 6
    → prefix_of (whole_text key side) ≡ Ok (whole_prefix key side)
long_reads key side is six =
    let at = first_word side in
    let other = ne_eqb (slice_index key 0) 4 (omega (arith, six)) in
    rw other (whole_ipv6 key at (word_fits key is)
    ∙ (λ i. Ok (record { family = sym six i; words = address_of key side; bits = 128 })))

pub whole_text_reads : (key : List ℕ) (side : Side) → IsKey key
    → prefix_of (whole_text key side) ≡ Ok (whole_prefix key side)
whole_text_reads key side is = ⊎_elim (short_reads key side is) (long_reads key side is) (families key is.valid)

-- four words as one number are those words
record SameFour (xs ys : List ℕ) (at from : ℕ) : Type 0 where
  first : slice_index xs at ≡ slice_index ys from
  second : slice_index xs (at + 1) ≡ slice_index ys (from + 1)
  third : slice_index xs (at + 2) ≡ slice_index ys (from + 2)
  fourth : slice_index xs (at + 3) ≡ slice_index ys (from + 3)

four_numbers : (a b c d w x y z : ℕ) → a < 2 ^ 32 → b < 2 ^ 32 → c < 2 ^ 32 → d < 2 ^ 32 → w < 2 ^ 32 → x < 2 ^ 32
    → y < 2 ^ 32 → z < 2 ^ 32
    → a * 2 ^ 96 + b * 2 ^ 64 + c * 2 ^ 32 + d ≡ w * 2 ^ 96 + x * 2 ^ 64 + y * 2 ^ 32 + z
    → (a ≡ w) × (b ≡ x) × (c ≡ y) × (d ≡ z)
four_numbers a b c d w x y z p q r s t u v k same = (omega arith, omega arith, omega arith, omega arith)

same_four : (xs ys : List ℕ) (at from : ℕ) → ((k : ℕ) → slice_index xs k < 2 ^ 32)
    → ((k : ℕ) → slice_index ys k < 2 ^ 32)
    → address_number xs at ≡ address_number ys from → SameFour xs ys at from
unfolding address_number
same_four xs ys at from p q same =
    let each = four_numbers _ _ _ _ _ _ _ _ (p at) (p (at + 1)) (p (at + 2)) (p (at + 3)) (q from) (q (from + 1))
    (q (from + 2)) (q (from + 3)) same in
    record { first = each.0; second = each.1; third = each.2; fourth = each.3 }

number_below : (xs : List ℕ) (at : ℕ) → ((k : ℕ) → slice_index xs k < 2 ^ 32) → address_number xs at < 2 ^ 128
unfolding address_number
number_below xs at small = omega (arith, small at, small (at + 1), small (at + 2), small (at + 3))

no_bits : (number : ℕ) → number < 2 ^ 128 → first_bits 0 number ≡ 0
no_bits number small = omega arith

words_fit : (words : List ℕ) → All (λ word. word < 2 ^ 32) words → (k : ℕ) → slice_index words k < 2 ^ 32
words_fit words each k = ⊎_elim
    (λ inside. each k 0 inside)
    (λ past. omega (arith, get_or_past words k 0 past))
    (cases_lt k (length words))

pub none_holds_all : (prefix : Seen) (key : List ℕ) (side : Side) → IsKey key
    → All (λ word. word < 2 ^ 32) prefix.words → prefix.bits ≡ 0
    → holds prefix key side ≡ (prefix.family == slice_index key 0)
unfolding holds
none_holds_all prefix key side is each none =
    let mine = no_bits (address_number prefix.words 0) (number_below prefix.words 0 (words_fit prefix.words each)) in
    let its = no_bits (address_number key (first_word side)) (number_below key (first_word side) (word_fits key is)) in
    rw (none, mine, its) (and_true _)
  where
    and_true : (b : Bool) → (b && true) ≡ b
    and_true b = search rules

-- the test that a prefix of a whole address makes
holds_is : (key other : List ℕ) (side at : Side) → holds (whole_prefix key side) other at
    ≡ ((slice_index key 0 == slice_index other 0)
    && (first_bits (family_bits (slice_index key 0)) (address_number key (first_word side))
    == first_bits (family_bits (slice_index key 0)) (address_number other (first_word at))))
unfolding holds address_number
holds_is key other side at = refl

both_equal : (a b x y : ℕ) → ((a == b) && (x == y)) ≡ true → (a ≡ b) × (x ≡ y)
both_equal a b x y is = (grind (arith, nat_tests), grind (arith, nat_tests))

equal_both : (a b x y : ℕ) → a ≡ b → x ≡ y → ((a == b) && (x == y)) ≡ true
equal_both a b x y p q = rw (eq-eqb a b p, eq-eqb x y q) refl

-- an address as a number is that of its four words
number_from : (words : List ℕ) (at : ℕ) → address_number words at ≡ address_number (words_from words at) 0
unfolding address_number
number_from words at = refl

holds_back : (key other : List ℕ) (side at : Side) → HasAddress other at key side
    → holds (whole_prefix key side) other at ≡ true
holds_back key other side at has =
    let number : address_number key (first_word side) ≡ address_number other (first_word at) =
    number_from key (first_word side) ∙ ap (λ l. address_number l 0) (sym has.1)
    ∙ sym (number_from other (first_word at)) in
    holds_is key other side at
    ∙ equal_both _ _ _ _ (sym has.0) (ap (λ n. first_bits (family_bits (slice_index key 0)) n) number)

-- the first 32 bits are the first word, and all 128 bits the number itself
first_32 : (words : List ℕ) (at : ℕ) → ((k : ℕ) → slice_index words k < 2 ^ 32)
    → first_bits 32 (address_number words at) ≡ slice_index words at
unfolding address_number
first_32 words at small = omega (arith, small at, small (at + 1), small (at + 2), small (at + 3))

first_128 : (number : ℕ) → first_bits 128 number ≡ number
first_128 number = omega arith

same_words : (xs ys : List ℕ) (at from : ℕ) → SameFour xs ys at from → words_from xs at ≡ words_from ys from
same_words xs ys at from same = λ i. same.first i ∷ same.second i ∷ same.third i ∷ same.fourth i ∷ []

short_forth : (key other : List ℕ) (side at : Side) → IsKey key → IsKey other → IsShort key → IsShort other
    → holds (whole_prefix key side) other at ≡ true → HasAddress other at key side
short_forth key other side at is is_other short short_other held =
    let bits : family_bits (slice_index key 0) ≡ 32 = rw (eq-eqb (slice_index key 0) 4 short.family) refl in
    let same = both_equal _ _ _ _ (sym (holds_is key other side at) ∙ held) in
    let first : slice_index key (first_word side) ≡ slice_index other (first_word at) =
    sym (first_32 key (first_word side) (word_fits key is))
    ∙ ap (λ n. first_bits n (address_number key (first_word side))) (sym bits)
    ∙ same.1
    ∙ ap (λ n. first_bits n (address_number other (first_word at))) bits
    ∙ first_32 other (first_word at) (word_fits other is_other) in
    let mine = one_word key side short in
    let its = one_word other at short_other in (
      sym same.0,
      same_words other key (first_word at) (first_word side) (record {
        first = sym first;
        second = its.second ∙ sym mine.second;
        third = its.third ∙ sym mine.third;
        fourth = its.fourth ∙ sym mine.fourth;
      }),
    )

long_forth : (key other : List ℕ) (side at : Side) → IsKey key → IsKey other → slice_index key 0 ≡ 6
    → holds (whole_prefix key side) other at ≡ true → HasAddress other at key side
long_forth key other side at is is_other six held =
    let bits : family_bits (slice_index key 0) ≡ 128 = rw (ne_eqb (slice_index key 0) 4 (omega (arith, six))) refl in
    let same = both_equal _ _ _ _ (sym (holds_is key other side at) ∙ held) in
    let number : address_number other (first_word at) ≡ address_number key (first_word side) =
    sym (first_128 (address_number other (first_word at)))
    ∙ ap (λ n. first_bits n (address_number other (first_word at))) (sym bits)
    ∙ sym same.1
    ∙ ap (λ n. first_bits n (address_number key (first_word side))) bits
    ∙ first_128 (address_number key (first_word side)) in (
      sym same.0,
      same_words other key (first_word at) (first_word side)
          (same_four other key (first_word at) (first_word side) (word_fits other is_other) (word_fits key is) number),
    )

holds_forth : (key other : List ℕ) (side at : Side) → IsKey key → IsKey other
    → holds (whole_prefix key side) other at ≡ true → HasAddress other at key side
holds_forth key other side at is is_other held =
    let family : slice_index key 0 ≡ slice_index other 0 = (both_equal _ _ _ _ (sym (holds_is key other side at)
    ∙ held)).0 in
    ⊎_elim
    (λ (short : IsShort key). ⊎_elim
    (λ (short_other : IsShort other). short_forth key other side at is is_other short short_other held)
    (λ six. absurd (omega (arith, six, family, short.family)))
    (families other is_other.valid))
    (λ six. long_forth key other side at is is_other six held)
    (families key is.valid)

pub whole_holds_one : (key other : List ℕ) (side at : Side) → IsKey key → IsKey other
    → (holds (whole_prefix key side) other at ≡ true) ↔ HasAddress other at key side
whole_holds_one key other side at is is_other =
    (holds_forth key other side at is is_other, holds_back key other side at)
