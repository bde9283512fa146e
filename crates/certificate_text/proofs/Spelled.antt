-- Lists of numbers as a line spells them, and what stands behind them.
use Rattle.std.proofs.Common.{◌≡◌, ℕ, ◌+◌, ◌<◌, ◌≤◌, ◌^◌, true, List, [], ◌∷◌, ◌++◌, length, drop, refl, sym, ◌∙◌, ap, arith, append_assoc, length-append, length-drop, append-nil}
use Rattle.std.specs.Prelude.{nat_lt}
use Rattle.std.specs.Fmt.{decimal}
use Rattle.std.specs.List.{flat_map}
use Rattle.std.proofs.lemmas.Bool.{and_parts, ltb-true, lt-ltb}
use Rattle.std.proofs.lemmas.List.{flat_map_more, drop_all}
use Rattle.std.proofs.lemmas.List.Folds.{list_all-append}
use Rattle.certificate_text.specs.Text.{spaced}
use Rattle.certificate_text.specs.Numeral.{IsParted, HasNoNumber, HasNoSpaced, are_below, IsSpelled, SpellsNone, IsCounted, CountsNone}
use Rattle.certificate_text.proofs.Numerals.{number_apart}

-- no digit begins what is spelled behind a space
pub parted_spaced : (xs rest : List ℕ) → IsParted rest → IsParted (flat_map spaced xs ++ rest)
parted_spaced [] rest parted = parted
parted_spaced (x ∷ xs) rest parted = refl

pub below_parts : (limit x : ℕ) (xs : List ℕ) → are_below limit (x ∷ xs) ≡ true
    → (x < limit) × (are_below limit xs ≡ true)
below_parts limit x xs below =
    let parts = and_parts (nat_lt x limit) (are_below limit xs) below in
    (ltb-true x limit parts.0, parts.1)

-- of two lists of numbers with the same spelling, one is the front of the other
pub numbers_apart : (limit : ℕ) (ys xs u v : List ℕ) → limit ≤ 2 ^ 64 → are_below limit ys ≡ true
    → are_below limit xs ≡ true → IsParted u → IsParted v → length ys ≤ length xs
    → flat_map spaced ys ++ u ≡ flat_map spaced xs ++ v
    → (xs ≡ ys ++ drop (length ys) xs) × (u ≡ flat_map spaced (drop (length ys) xs) ++ v)
numbers_apart limit [] xs u v small below_y below_x parted_u parted_v short same = (refl, same)
numbers_apart limit (y ∷ ys) [] u v small below_y below_x parted_u parted_v short same = absurd (omega arith)
numbers_apart limit (y ∷ ys) (x ∷ xs) u v small below_y below_x parted_u parted_v short same =
    let below_ys = below_parts limit y ys below_y in
    let below_xs = below_parts limit x xs below_x in
    let tails : (decimal y ++ flat_map spaced ys) ++ u ≡ (decimal x ++ flat_map spaced xs) ++ v =
    ap (λ bytes. drop 1 bytes) same in
    let parts = number_apart y x (flat_map spaced ys ++ u) (flat_map spaced xs ++ v) (omega (arith, below_ys.0))
    (omega (arith, below_xs.0))
    (parted_spaced ys u parted_u) (parted_spaced xs v parted_v)
    (sym (append_assoc (decimal y) (flat_map spaced ys) u)
    ∙ (tails ∙ append_assoc (decimal x) (flat_map spaced xs) v)) in
    let rest = numbers_apart limit ys xs u v small below_ys.1 below_xs.1 parted_u parted_v (omega arith) parts.1 in
    (cc (parts.0, rest.0), rest.1)

-- one more number
pub spelled_more : (limit i n : ℕ) (bytes xs rest after : List ℕ) → IsSpelled limit i bytes xs rest → n < limit
    → IsParted after → rest ≡ spaced n ++ after
    → IsSpelled limit (i + 1) bytes (xs ++ n ∷ []) after
spelled_more limit i n bytes xs rest after spelled less parted is = record {
  size = simp length-append (omega (arith, spelled.size));
  below = rw (list_all-append (λ x. nat_lt x limit) xs (n ∷ []), spelled.below, lt-ltb n limit less) refl;
  parted = parted;
  parts = spelled.parts
      ∙ (ap (λ more. flat_map spaced xs ++ more) is
      ∙ (sym (append_assoc (flat_map spaced xs) (spaced n) after)
      ∙ ap (λ front. front ++ after) (flat_map_more spaced [] xs n)));
}

-- numbers to come begin with one
goes_on : (limit : ℕ) (xs rest after : List ℕ) → 0 < length xs → are_below limit xs ≡ true → IsParted after
    → rest ≡ flat_map spaced xs ++ after → HasNoSpaced limit rest → ⊥
goes_on limit [] rest after some below parted is none = absurd (omega arith)
goes_on limit (x ∷ xs) rest after some below parted is none =
    none x (flat_map spaced xs ++ after) (below_parts limit x xs below).0 (parted_spaced xs after parted)
    (is ∙ append_assoc (spaced x) (flat_map spaced xs) after)

-- where the numbers so far can't go on, so many are not there
pub spelled_stuck : (limit i count : ℕ) (bytes xs rest : List ℕ) → limit ≤ 2 ^ 64 → IsSpelled limit i bytes xs rest
    → i < count → HasNoSpaced limit rest → SpellsNone limit count bytes
spelled_stuck limit i count bytes xs rest small spelled less none ys after other =
    let later = drop (length xs) ys in
    let parts = numbers_apart limit xs ys rest after small spelled.below other.below spelled.parted other.parted
    (omega (arith, spelled.size, other.size)) (sym spelled.parts ∙ other.parts) in
    let both : are_below limit (xs ++ later) ≡ true = rw (← parts.0) other.below in
    let below = and_parts (are_below limit xs) (are_below limit later)
    (sym (list_all-append (λ x. nat_lt x limit) xs later) ∙ both) in
    let some : 0 < length later = simp length-drop (omega (arith, spelled.size, other.size)) in
    goes_on limit later rest after some below.1 other.parted parts.1 none

-- a count and its numbers
pub counted_from : (limit most n : ℕ) (bytes after xs rest : List ℕ) → n ≤ most → bytes ≡ decimal n ++ after
    → IsSpelled limit n after xs rest → IsCounted limit most bytes xs rest
counted_from limit most n bytes after xs rest few is spelled = record {
  few = omega (arith, spelled.size);
  below = spelled.below;
  parted = spelled.parted;
  parts = is ∙ (ap (λ more. decimal n ++ more) spelled.parts
      ∙ (sym (append_assoc (decimal n) (flat_map spaced xs) rest)
      ∙ ap (λ k. (decimal k ++ flat_map spaced xs) ++ rest) (sym spelled.size)));
}

counted_parts : (limit most : ℕ) (bytes xs rest : List ℕ) → IsCounted limit most bytes xs rest
    → bytes ≡ decimal (length xs) ++ (flat_map spaced xs ++ rest)
counted_parts limit most bytes xs rest is = is.parts ∙ append_assoc (decimal (length xs)) (flat_map spaced xs) rest

pub counted_none : (limit most : ℕ) (bytes : List ℕ) → HasNoNumber (most + 1) bytes → CountsNone limit most bytes
counted_none limit most bytes none xs rest is =
    none (length xs) (flat_map spaced xs ++ rest) (omega (arith, is.few)) (parted_spaced xs rest is.parted)
    (counted_parts limit most bytes xs rest is)

pub counted_stuck : (limit most n : ℕ) (bytes after : List ℕ) → n ≤ most → most < 2 ^ 64 → IsParted after
    → bytes ≡ decimal n ++ after → SpellsNone limit n after → CountsNone limit most bytes
counted_stuck limit most n bytes after few small parted is none xs rest counts =
    let parts = number_apart n (length xs) after (flat_map spaced xs ++ rest) (omega arith)
    (omega (arith, counts.few)) parted (parted_spaced xs rest counts.parted)
    (sym is ∙ counted_parts limit most bytes xs rest counts) in
    none xs rest (record { size = sym parts.0; below = counts.below; parted = counts.parted; parts = parts.1 })

-- there is one way alone to read counted numbers
pub counted_apart : (limit most : ℕ) (bytes xs u ys v : List ℕ) → limit ≤ 2 ^ 64 → most < 2 ^ 64
    → IsCounted limit most bytes xs u → IsCounted limit most bytes ys v → (xs ≡ ys) × (u ≡ v)
counted_apart limit most bytes xs u ys v small few a b =
    let parts = number_apart (length xs) (length ys) (flat_map spaced xs ++ u) (flat_map spaced ys ++ v)
    (omega (arith, a.few)) (omega (arith, b.few)) (parted_spaced xs u a.parted) (parted_spaced ys v b.parted)
    (sym (counted_parts limit most bytes xs u a) ∙ counted_parts limit most bytes ys v b) in
    let rest = numbers_apart limit xs ys u v small a.below b.below a.parted b.parted (omega (arith, parts.0)) parts.1 in
    let no_more : drop (length xs) ys ≡ [] = drop_all (length xs) ys (omega (arith, parts.0)) in (
      sym (rest.0 ∙ ap (λ more. xs ++ more) no_more ∙ append-nil xs),
      rest.1
          ∙ ap (λ more. flat_map spaced more ++ v) no_more,
    )
