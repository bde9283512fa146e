-- Two keys with one text are one key.
use Rattle.std.proofs.Common.{◌≡◌, ℕ, ◌/◌, ◌%◌, ◌^◌, ◌<◌, cond, IsTrue, List, ◌∷◌, ◌++◌, length, slice_index, refl, sym, ap, ◌∙◌, arith, ◌⊎◌, inl, inr, ⊎_elim}
use Rattle.std.proofs.lemmas.Bool.Decides.{nat_tests, eqb_tells}
use Rattle.std.proofs.lemmas.Bool.{cases_lt}
use Rattle.std.proofs.lemmas.List.{get_or_past}
use Rattle.std.proofs.lemmas.Fmt.{decimal_injective}
use Rattle.std.proofs.lemmas.Grind.{same_number_lists}
use Rattle.std.specs.Fmt.{decimal}
use borrow.Author.Count.{below_none, below_more}
use borrow.Author.Tests.{eq-eqb, ne_eqb}
use Rattle.flow_keys.specs.Key.{is_valid, IsKey}
use Rattle.flow_keys.specs.Text.{ipv4_text, ipv6_text, address_text, text_of}
use Rattle.flow_keys.proofs.Fields.{SameField, SameAddress, same_decimal, same_ipv4, same_ipv6, ipv4-is_no-ipv6}

-- a key of family 4, with no more than one word an address
pub record IsShort (words : List ℕ) : Type 0 where
  pub family : slice_index words 0 ≡ 4
  pub at_2 : slice_index words 2 ≡ 0
  pub at_3 : slice_index words 3 ≡ 0
  pub at_4 : slice_index words 4 ≡ 0
  pub at_6 : slice_index words 6 ≡ 0
  pub at_7 : slice_index words 7 ≡ 0
  pub at_8 : slice_index words 8 ≡ 0

pub families : (words : List ℕ) → IsTrue (is_valid words) → IsShort words ⊎ (slice_index words 0 ≡ 6)
families words valid = ⊎_elim
    (λ six. inr six.1)
    (λ other. inl record {
      family = grind (arith, nat_tests);
      at_2 = grind (arith, nat_tests);
      at_3 = grind (arith, nat_tests);
      at_4 = grind (arith, nat_tests);
      at_6 = grind (arith, nat_tests);
      at_7 = grind (arith, nat_tests);
      at_8 = grind (arith, nat_tests);
    })
    (eqb_tells (slice_index words 0) 6)

pub word_fits : (words : List ℕ) → IsKey words → (k : ℕ) → slice_index words k < 2 ^ 32
word_fits words key k = ⊎_elim
    (λ inside. key.each k 0 inside)
    (λ past. omega (arith, get_or_past words k 0 past))
    (cases_lt k (length words))

pub short_address : (words : List ℕ) (at : ℕ) → slice_index words 0 ≡ 4
    → address_text words at ≡ ipv4_text (slice_index words at)
short_address words at four =
    ap (λ b. cond b (ipv4_text (slice_index words at)) (ipv6_text words at)) (eq-eqb (slice_index words 0) 4 four)

pub long_address : (words : List ℕ) (at : ℕ) → slice_index words 0 ≡ 6 → address_text words at ≡ ipv6_text words at
long_address words at six =
    ap (λ b. cond b (ipv4_text (slice_index words at)) (ipv6_text words at))
    (ne_eqb (slice_index words 0) 4 (omega arith))

-- the text from the destination port on, and from the source port on
abbrev ending : List ℕ → List ℕ
ending words = decimal (slice_index words 9 % 65536) ++ (32 ∷ decimal (slice_index words 10))

abbrev behind_source : List ℕ → List ℕ
behind_source words = decimal (slice_index words 9 / 65536) ++ (32 ∷ (address_text words 5 ++ (32 ∷ ending words)))

text_of-parts : (words : List ℕ) → text_of words ≡ address_text words 1 ++ (32 ∷ behind_source words)
unfolding text_of
text_of-parts words = refl

-- two texts are the same from the destination port on only if port and protocol are
record SameEnding (xs ys : List ℕ) : Type 0 where
  port : slice_index xs 9 % 65536 ≡ slice_index ys 9 % 65536
  protocol : slice_index xs 10 ≡ slice_index ys 10

same_ending : (xs ys : List ℕ) → IsKey xs → IsKey ys → ending xs ≡ ending ys → SameEnding xs ys
same_ending xs ys p q e =
    let port = same_decimal _ _ 32 32 _ _ (omega arith) (omega arith) (omega arith) (omega arith) e in
    record {
      port = port.value;
      protocol = decimal_injective _ _ (omega (arith, word_fits xs p 10)) (omega (arith, word_fits ys q 10)) port.rest;
    }

-- two texts are the same from the source port on only if it is, and what follows
record SameBehind (xs ys : List ℕ) : Type 0 where
  port : slice_index xs 9 / 65536 ≡ slice_index ys 9 / 65536
  rest : address_text xs 5 ++ (32 ∷ ending xs) ≡ address_text ys 5 ++ (32 ∷ ending ys)

same_behind : (xs ys : List ℕ) → IsKey xs → IsKey ys → behind_source xs ≡ behind_source ys → SameBehind xs ys
same_behind xs ys p q e =
    let port = same_decimal _ _ 32 32 _ _ (omega (arith, word_fits xs p 9)) (omega (arith, word_fits ys q 9))
    (omega arith) (omega arith) e in
    record { port = port.value; rest = port.rest }

-- the addresses of two texts at a place
at_place : (xs ys a b c d : List ℕ) (at : ℕ) → address_text xs at ≡ a → address_text ys at ≡ b
    → address_text xs at ++ c ≡ address_text ys at ++ d → a ++ c ≡ b ++ d
at_place xs ys a b c d at p q e = sym (ap (λ x. x ++ c) p) ∙ e ∙ ap (λ x. x ++ d) q

short_place : (xs ys c d : List ℕ) (at : ℕ) → IsKey xs → IsKey ys → IsShort xs → IsShort ys
    → address_text xs at ++ (32 ∷ c) ≡ address_text ys at ++ (32 ∷ d)
    → SameField (slice_index xs at) (slice_index ys at) 32 32 c d
short_place xs ys c d at p q s t e =
    same_ipv4 _ _ c d (word_fits xs p at) (word_fits ys q at)
    (at_place xs ys _ _ (32 ∷ c) (32 ∷ d) at (short_address xs at s.family) (short_address ys at t.family) e)

long_place : (xs ys c d : List ℕ) (at : ℕ) → IsKey xs → IsKey ys → slice_index xs 0 ≡ 6 → slice_index ys 0 ≡ 6
    → address_text xs at ++ (32 ∷ c) ≡ address_text ys at ++ (32 ∷ d)
    → SameAddress xs ys at c d
long_place xs ys c d at p q s t e =
    same_ipv6 xs ys at c d (word_fits xs p) (word_fits ys q)
    (at_place xs ys _ _ (32 ∷ c) (32 ∷ d) at (long_address xs at s) (long_address ys at t) e)

mixed : (xs ys c d : List ℕ) → IsKey xs → IsKey ys → IsShort xs → slice_index ys 0 ≡ 6
    → address_text xs 1 ++ c ≡ address_text ys 1 ++ d → ⊥
mixed xs ys c d p q s t e =
    ipv4-is_no-ipv6 _ ys 1 c d (word_fits xs p 1) (word_fits ys q)
    (at_place xs ys _ _ c d 1 (short_address xs 1 s.family) (long_address ys 1 t) e)

-- lists of eleven words, one after the other
record SameWords (xs ys : List ℕ) : Type 0 where
  at_0 : slice_index xs 0 ≡ slice_index ys 0
  at_1 : slice_index xs 1 ≡ slice_index ys 1
  at_2 : slice_index xs 2 ≡ slice_index ys 2
  at_3 : slice_index xs 3 ≡ slice_index ys 3
  at_4 : slice_index xs 4 ≡ slice_index ys 4
  at_5 : slice_index xs 5 ≡ slice_index ys 5
  at_6 : slice_index xs 6 ≡ slice_index ys 6
  at_7 : slice_index xs 7 ≡ slice_index ys 7
  at_8 : slice_index xs 8 ≡ slice_index ys 8
  at_9 : slice_index xs 9 ≡ slice_index ys 9
  at_10 : slice_index xs 10 ≡ slice_index ys 10

same_below : (xs ys : List ℕ) → SameWords xs ys → (k : ℕ) → k < 11 → slice_index xs k ≡ slice_index ys k
same_below xs ys same =
    let At : ℕ → Type 0 = λ k. slice_index xs k ≡ slice_index ys k in
    let below_4 = below_more At 3
    (below_more At 2 (below_more At 1 (below_more At 0 (below_none At) same.at_0) same.at_1) same.at_2) same.at_3 in
    let below_8 = below_more At 7
    (below_more At 6 (below_more At 5 (below_more At 4 below_4 same.at_4) same.at_5) same.at_6) same.at_7 in
    below_more At 10 (below_more At 9 (below_more At 8 below_8 same.at_8) same.at_9) same.at_10

same_key : (xs ys : List ℕ) → IsKey xs → IsKey ys → SameWords xs ys → xs ≡ ys
same_key xs ys p q same =
    same_number_lists xs ys (p.size ∙ sym q.size) (λ k small. same_below xs ys same k (omega (arith, p.size)))

short_keys : (xs ys : List ℕ) → IsKey xs → IsKey ys → IsShort xs → IsShort ys
    → address_text xs 1 ++ (32 ∷ behind_source xs) ≡ address_text ys 1 ++ (32 ∷ behind_source ys) → SameWords xs ys
short_keys xs ys p q s t e =
    let source = short_place xs ys (behind_source xs) (behind_source ys) 1 p q s t e in
    let behind = same_behind xs ys p q source.rest in
    let destination = short_place xs ys (ending xs) (ending ys) 5 p q s t behind.rest in
    let end = same_ending xs ys p q destination.rest in
    record {
      at_0 = s.family ∙ sym t.family;
      at_1 = source.value;
      at_2 = s.at_2 ∙ sym t.at_2;
      at_3 = s.at_3 ∙ sym t.at_3;
      at_4 = s.at_4 ∙ sym t.at_4;
      at_5 = destination.value;
      at_6 = s.at_6 ∙ sym t.at_6;
      at_7 = s.at_7 ∙ sym t.at_7;
      at_8 = s.at_8 ∙ sym t.at_8;
      at_9 = omega (arith, behind.port, end.port);
      at_10 = end.protocol;
    }

long_keys : (xs ys : List ℕ) → IsKey xs → IsKey ys → slice_index xs 0 ≡ 6 → slice_index ys 0 ≡ 6
    → address_text xs 1 ++ (32 ∷ behind_source xs) ≡ address_text ys 1 ++ (32 ∷ behind_source ys) → SameWords xs ys
long_keys xs ys p q s t e =
    let source = long_place xs ys (behind_source xs) (behind_source ys) 1 p q s t e in
    let behind = same_behind xs ys p q source.rest in
    let destination = long_place xs ys (ending xs) (ending ys) 5 p q s t behind.rest in
    let end = same_ending xs ys p q destination.rest in
    record {
      at_0 = s ∙ sym t;
      at_1 = source.first;
      at_2 = source.second;
      at_3 = source.third;
      at_4 = source.fourth;
      at_5 = destination.first;
      at_6 = destination.second;
      at_7 = destination.third;
      at_8 = destination.fourth;
      at_9 = omega (arith, behind.port, end.port);
      at_10 = end.protocol;
    }

pub one_text_one_key : (xs ys : List ℕ) → IsKey xs → IsKey ys → text_of xs ≡ text_of ys → xs ≡ ys
one_text_one_key xs ys p q e = same_key xs ys p q (both (families xs p.valid) (families ys q.valid))
  where
    spread : address_text xs 1 ++ (32 ∷ behind_source xs) ≡ address_text ys 1 ++ (32 ∷ behind_source ys)
    spread = sym (text_of-parts xs) ∙ e ∙ text_of-parts ys

    both : IsShort xs ⊎ (slice_index xs 0 ≡ 6) → IsShort ys ⊎ (slice_index ys 0 ≡ 6) → SameWords xs ys
    both (inl s) (inl t) = short_keys xs ys p q s t spread
    both (inl s) (inr t) = absurd (mixed xs ys _ _ p q s t spread)
    both (inr s) (inl t) = absurd (mixed ys xs _ _ q p t s (sym spread))
    both (inr s) (inr t) = long_keys xs ys p q s t spread
