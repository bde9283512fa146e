-- A line is always read as a node's, or as none's.
use Rattle.std.proofs.Common.{◌≡◌, ℕ, suc, zero, ◌+◌, ◌≤◌, ◌<◌, ◌⊎◌, inl, inr, ◌^◌, ◌==◌, Bool, true, ◌&&◌, List, [], ◌∷◌, ◌++◌, length, take, drop, get_or, Option, Some, None, refl, sym, ◌∙◌, ap, subst, arith, append-nil}
use Rattle.std.specs.Prelude.{codes, nat_le}
use Rattle.std.specs.Bool.{Decides}
use Rattle.std.specs.Char.{is_ascii_digit}
use Rattle.std.specs.Fmt.{decimal}
use Rattle.std.specs.List.{prefix_len}
use Rattle.std.specs.Str.{all_ascii_digits}
use Rattle.std.specs.Str.Parse.{digits_value}
use Rattle.std.proofs.lemmas.Bool.{cases_Bool, cases_lt, le-leb}
use Rattle.std.proofs.lemmas.Bool.Decides.{Decides-eqb, not_from_Decides}
use Rattle.std.proofs.lemmas.Fmt.{decimal_injective, decimal_nonempty, length-decimal-le}
use Rattle.std.proofs.lemmas.List.{take-append-drop, append_cancel_left}
use Rattle.std.proofs.lemmas.Slice.Eq.{bytes_eq-Decides}
use Rattle.std.proofs.lemmas.Str.Parse.{digits_value_short}
use Rattle.bound_certificate.specs.Formed.{are_prices}
use Rattle.bound_certificate.specs.Node.{DualPart}
use Rattle.certificate_text.specs.NodeHead.{IsSound, ReadsLine}
use Rattle.certificate_text.specs.Numeral.{IsParted, HasNoNumber, HasNoSpaced, are_below, IsSpelled, SpellsNone, IsCounted, CountsNone}
use Rattle.certificate_text.specs.Reading.{Between}
use Rattle.certificate_text.specs.Text.{spaced, counted, part_line}
use Rattle.certificate_text.specs.declared.node_head.NodeHead.{NodeHead}
use Rattle.certificate_text.specs.declared.node_head.NodeHead.TheVariants.{Branch, Over, Hall, Dual, Full}
use Rattle.certificate_text.proofs.ByteParts.{both_true, branch_sound}
use Rattle.certificate_text.proofs.Heads.{branch_read, hall_read, dual_behind, dual_read, no_node}
use Rattle.certificate_text.proofs.Lines.{branch_children, hall_names, dual_prices, dual_second, dual_line}
use Rattle.certificate_text.proofs.Numerals.{own, digits-take, parted-drop, front_is_number, zero_alone, zero_is, numeral_is_value}
use Rattle.certificate_text.proofs.Spelled.{spelled_more, spelled_stuck, counted_from, counted_none, counted_stuck}

-- two answers of a test
by_test : {P : Type 0} (test : Bool) → Decides test P → P ⊎ (P → ⊥)
by_test {P} test decides =
    elim (cases_Bool test) [ inl holds ↦ inl (decides.0 holds) | inr fails ↦ inr (not_from_Decides test decides fails) ]

pub same_or_not : (m n : ℕ) → (m ≡ n) ⊎ (m ≡ n → ⊥)
same_or_not m n = by_test (m == n) (Decides-eqb m n)

pub same_list_or_not : (xs ys : List ℕ) → (xs ≡ ys) ⊎ (xs ≡ ys → ⊥)
same_list_or_not xs ys = by_test _ (bytes_eq-Decides xs ys)

pub empty_or_not : (xs : List ℕ) → (xs ≡ []) ⊎ (0 < length xs)
empty_or_not [] = inl refl
empty_or_not (x ∷ xs) = inr (omega arith)

some_is_no_empty : (xs : List ℕ) → 0 < length xs → xs ≡ [] → ⊥
some_is_no_empty xs some is = absurd (omega (arith, some, ap length is))

-- a word at the front
pub word_answer : (word bytes : List ℕ)
    → ((rest : List ℕ) × (bytes ≡ word ++ rest)) ⊎ ((rest : List ℕ) → bytes ≡ word ++ rest → ⊥)
word_answer [] bytes = inl (bytes, refl)
word_answer (w ∷ word) [] = inr (λ rest is. cc)
word_answer (w ∷ word) (b ∷ bytes) =
    elim (same_or_not b w) [
      | inr other ↦ inr (λ rest is. let same : b ≡ w = cc in other same)
      | inl same ↦ elim (word_answer word bytes) [
        | inl found ↦ inl (found.0, λ i. same i ∷ found.1 i)
        | inr none ↦ inr (λ rest is. let tail : bytes ≡ word ++ rest = cc in none rest tail)
      ]
    ]

-- digits that write a number, or no number below 2^56
numeral_answer : (ds : List ℕ) → all_ascii_digits ds ≡ true
    → ((n : ℕ) × (n < 2 ^ 64) × (decimal n ≡ ds)) ⊎ ((n : ℕ) → n < 2 ^ 56 → ds ≡ decimal n → ⊥)
numeral_answer ds all =
    elim (cases_lt 0 (length ds)) [
      | inr none ↦ inr (λ n small is. absurd (omega (arith, none, ap length is, decimal_nonempty n (omega arith))))
      | inl some ↦ elim (cases_lt 17 (length ds)) [
        | inl many ↦ inr (λ n small is.
            let few = length-decimal-le 17 n (omega arith) (omega arith) (omega arith) in
            absurd (omega (arith, many, few, ap length is)))
        | inr few ↦ elim (same_or_not (get_or ds 0 0) 48) [
          | inr first ↦
              let small : digits_value 10 ds < 10 ^ 17 = digits_value_short own ds 17 all few in
              inl (digits_value 10 ds, omega (arith, small), numeral_is_value ds all some few first)
          | inl first ↦ elim (same_or_not (length ds) 1) [
            | inl one ↦ inl (0, omega arith, zero_is ds one first)
            | inr more ↦ inr (λ n small is.
                more (ap length is ∙ zero_alone n (omega arith) (sym (ap (λ ds. get_or ds 0 0) is) ∙ first)))
          ]
        ]
      ]
    ]

-- a number at the front
NumberStands : (ℕ → List ℕ) → ℕ → List ℕ → Type 0
NumberStands spell limit bytes =
    (n : ℕ) × (after : List ℕ) × (n < limit) × (bytes ≡ spell n ++ after) × IsParted after

number_answer : (limit : ℕ) (bytes : List ℕ) → limit ≤ 2 ^ 56
    → NumberStands decimal limit bytes ⊎ HasNoNumber limit bytes
unfolding NumberStands
number_answer limit bytes small =
    let size = prefix_len is_ascii_digit bytes in
    let behind = drop size bytes in
    elim (numeral_answer (take size bytes) (digits-take bytes)) [
      | inr none ↦ inr (λ n after below parted spelled.
          none n (omega arith) (front_is_number n bytes after (omega arith) parted spelled))
      | inl found ↦ elim (cases_lt found.0 limit) [
        | inl below ↦ inl (
          found.0,
          behind,
          below,
          sym (take-append-drop size bytes) ∙ ap (λ (front : List ℕ). front ++ behind) (sym found.2),
          parted-drop bytes,
        )
        | inr large ↦ inr (λ n after below parted spelled.
            let front = front_is_number n bytes after (omega arith) parted spelled in
            let same = decimal_injective found.0 n found.1 (omega arith) (found.2 ∙ front) in
            absurd (omega (arith, same, large, below)))
      ]
    ]

-- and behind a space
spaced_answer : (limit : ℕ) (bytes : List ℕ) → limit ≤ 2 ^ 56
    → NumberStands spaced limit bytes ⊎ HasNoSpaced limit bytes
unfolding NumberStands
spaced_answer limit bytes small =
    elim (word_answer (codes " ") bytes) [
      | inr none ↦ inr (λ n after below parted is. none (decimal n ++ after) is)
      | inl rest ↦ elim (number_answer limit rest.0 small) [
        | inl found ↦ inl (
          found.0,
          found.1,
          found.2,
          rest.1 ∙ ap (λ (bytes : List ℕ). codes " " ++ bytes) found.3,
          found.4,
        )
        | inr none ↦ inr (λ n after below parted is.
            none n after below parted (append_cancel_left (codes " ") rest.0 (decimal n ++ after) (sym rest.1 ∙ is)))
      ]
    ]

-- so many numbers behind a space each
spelled_from : (limit count : ℕ) (bytes : List ℕ) → limit ≤ 2 ^ 56 → (k i : ℕ) (xs rest : List ℕ) → i + k ≡ count
    → IsSpelled limit i bytes xs rest
    → ((xs rest : List ℕ) × IsSpelled limit count bytes xs rest) ⊎ SpellsNone limit count bytes
unfolding NumberStands
spelled_from limit count bytes small zero i xs rest is spelled =
    let all : i ≡ count = omega (arith, is) in
    inl (xs, rest, subst (λ (n : ℕ). IsSpelled limit n bytes xs rest) all spelled)
spelled_from limit count bytes small (suc k) i xs rest is spelled =
    elim (spaced_answer limit rest small) [
      | inl found ↦
          spelled_from limit count bytes small k (i + 1) (xs ++ found.0 ∷ []) found.1 (omega (arith, is))
          (spelled_more limit i found.0 bytes xs rest found.1 spelled found.2 found.4 found.3)
      | inr none ↦ inr (spelled_stuck limit i count bytes xs rest (omega arith) spelled (omega (arith, is)) none)
    ]

none_spelled : (limit : ℕ) (bytes : List ℕ) → IsParted bytes → IsSpelled limit 0 bytes [] bytes
none_spelled limit bytes parted = record { size = refl; below = refl; parted = parted; parts = refl }

-- a count and its numbers
CountedStand : ℕ → ℕ → List ℕ → Type 0
CountedStand limit most bytes = (xs rest : List ℕ) × IsCounted limit most bytes xs rest

counted_answer : (limit most : ℕ) (bytes : List ℕ) → limit ≤ 2 ^ 56 → most ≤ 64
    → CountedStand limit most bytes ⊎ CountsNone limit most bytes
unfolding NumberStands CountedStand
counted_answer limit most bytes small few =
    elim (number_answer (most + 1) bytes (omega (arith, few))) [
      | inr none ↦ inr (counted_none limit most bytes none)
      | inl found ↦
          let start = none_spelled limit found.1 found.4 in
          let within : found.0 ≤ most = omega (arith, found.2) in
          elim (spelled_from limit found.0 found.1 small found.0 0 [] found.1 (omega arith) start) [
            | inl numbers ↦ inl (
              numbers.0,
              numbers.1,
              counted_from limit most found.0 bytes found.1 numbers.0 numbers.1 within found.3 numbers.2,
            )
            | inr none ↦ inr (counted_stuck limit most found.0 bytes found.1 within
                (omega (arith, few)) found.4 found.3 none)
          ]
    ]

-- what a line is read as, by its word
LineAnswer : List ℕ → Type 0
LineAnswer line = (read : Option NodeHead) × ReadsLine line read

branch_answer : (bytes : List ℕ) → LineAnswer (codes "branch " ++ bytes)
unfolding NumberStands LineAnswer
branch_answer bytes =
    elim (number_answer 9 bytes (omega arith)) [
      | inr none ↦ (
        None,
        λ part sound same.
            let found = branch_children bytes part sound same in
            none found.0 [] (omega (arith, found.2)) refl (found.4 ∙ sym (append-nil (decimal found.0))),
      )
      | inl found ↦ elim (cases_lt 0 found.0) [
        | inr zero_children ↦ (
          None,
          λ part sound same.
              let read = branch_read bytes found.1 found.0 part found.2 found.3 found.4 sound same in
              absurd (omega (arith, read.0, zero_children)),
        )
        | inl some ↦ elim (empty_or_not found.1) [
          | inr more ↦ (
            None,
            λ part sound same.
                let read = branch_read bytes found.1 found.0 part found.2 found.3 found.4 sound same in
                some_is_no_empty found.1 more read.1,
          )
          | inl empty ↦
              let range : Between 1 8 found.0 = record { low = omega (arith, some); high = omega (arith, found.2) } in
              let spelled : decimal found.0 ≡ bytes =
              sym (found.3 ∙ ap (λ (rest : List ℕ). decimal found.0 ++ rest) empty ∙ append-nil (decimal found.0)) in (
                Some (Branch found.0),
                (
                  (branch_sound found.0 range).sound,
                  ap
                      (λ (word : List ℕ). codes "branch " ++ (word ++ codes "\n")) spelled,
                ),
              )
        ]
      ]
    ]

-- counted numbers that end a line
counted_alone : (limit most : ℕ) (bytes xs rest : List ℕ) → IsCounted limit most bytes xs rest → rest ≡ []
    → counted xs ≡ bytes
counted_alone limit most bytes xs rest counts empty =
    sym (counts.parts ∙ ap (λ (rest : List ℕ). counted xs ++ rest) empty ∙ append-nil (counted xs))

hall_answer : (bytes : List ℕ) → LineAnswer (codes "hall " ++ bytes)
unfolding CountedStand LineAnswer
hall_answer bytes =
    elim (counted_answer 64 64 bytes (omega arith) (omega arith)) [
      | inr none ↦ (None, λ part sound same. let found = hall_names bytes part sound same in none found.0 [] found.2)
      | inl found ↦ elim (empty_or_not found.1) [
        | inr more ↦ (
          None,
          λ part sound same.
              some_is_no_empty found.1 more (hall_read bytes found.0 found.1 part found.2 sound same),
        )
        | inl empty ↦ (
          Some (Hall found.0),
          (
            both_true (nat_le (length found.0) 64) (are_below 64 found.0)
                (le-leb (length found.0) 64 found.2.few) found.2.below,
            ap (λ (words : List ℕ). codes "hall " ++ (words ++ codes "\n"))
                (counted_alone 64 64 bytes found.0 found.1 found.2 empty),
          ),
        )
      ]
    ]

dual_sound : (lambda mu bytes second rest behind : List ℕ) → IsCounted (2 ^ 56) 64 bytes lambda behind
    → IsCounted (2 ^ 56) 32 second mu rest → IsSound (DualPart lambda mu)
dual_sound lambda mu bytes second rest behind first last =
    let some = nat_le (length lambda) 64 in
    let others = nat_le (length mu) 32 in
    let sizes = both_true some others (le-leb (length lambda) 64 first.few) (le-leb (length mu) 32 last.few) in
    both_true (some && others && are_prices lambda) (are_prices mu)
    (both_true (some && others) (are_prices lambda) sizes first.below) last.below

dual_spelled : (lambda mu bytes behind second rest : List ℕ) → IsCounted (2 ^ 56) 64 bytes lambda behind
    → behind ≡ codes " " ++ second → IsCounted (2 ^ 56) 32 second mu rest → rest ≡ []
    → part_line (DualPart lambda mu) ≡ (codes "dual " ++ bytes) ++ codes "\n"
dual_spelled lambda mu bytes behind second rest first is last empty =
    let mus : counted mu ≡ second = counted_alone (2 ^ 56) 32 second mu rest last empty in
    let whole : counted lambda ++ (codes " " ++ counted mu) ≡ bytes =
    ap (λ (word : List ℕ). counted lambda ++ (codes " " ++ word)) mus
    ∙ ap (λ (more : List ℕ). counted lambda ++ more) (sym is) ∙ sym first.parts in
    ap (λ (tail : List ℕ). codes "dual " ++ tail)
    (dual_line lambda mu ∙ ap (λ (word : List ℕ). word ++ codes "\n") whole)

dual_answer : (bytes : List ℕ) → LineAnswer (codes "dual " ++ bytes)
unfolding CountedStand LineAnswer
dual_answer bytes =
    elim (counted_answer (2 ^ 56) 64 bytes (omega arith) (omega arith)) [
      | inr none ↦ (
        None,
        λ part sound same.
            let found = dual_prices bytes part sound same in
            none found.0 (codes " " ++ counted found.1) found.3,
      )
      | inl lambdas ↦ elim (word_answer (codes " ") lambdas.1) [
        | inr none ↦ (
          None,
          λ part sound same.
              let behind = dual_behind bytes lambdas.0 lambdas.1 part lambdas.2 sound same in
              none (counted behind.0) behind.1,
        )
        | inl second ↦ elim (counted_answer (2 ^ 56) 32 second.0 (omega arith) (omega arith)) [
          | inr none ↦ (
            None,
            λ part sound same.
                let found = dual_second bytes lambdas.0 lambdas.1 second.0 part lambdas.2 second.1 sound same in
                none found.0 [] found.2,
          )
          | inl mus ↦ elim (empty_or_not mus.1) [
            | inr more ↦ (
              None,
              λ part sound same.
                  some_is_no_empty mus.1 more
                  (dual_read bytes lambdas.0 lambdas.1 second.0 mus.0 mus.1 part lambdas.2 second.1 mus.2 sound same),
            )
            | inl empty ↦ (
              Some (Dual lambdas.0 mus.0),
              (
                dual_sound lambdas.0 mus.0 bytes second.0 mus.1 lambdas.1 lambdas.2 mus.2,
                dual_spelled lambdas.0 mus.0 bytes lambdas.1 second.0 mus.1 lambdas.2 second.1 mus.2 empty,
              ),
            )
          ]
        ]
      ]
    ]

-- a line by its word
at_word : (line word : List ℕ) → line ≡ word → LineAnswer word → LineAnswer line
at_word line word is answer = subst LineAnswer (sym is) answer

over_answer : LineAnswer (codes "over")
unfolding LineAnswer
over_answer = (Some Over, (refl, refl))

full_answer : LineAnswer (codes "full")
unfolding LineAnswer
full_answer = (Some Full, (refl, refl))

abbrev HasNot : List ℕ → List ℕ → Type 0
HasNot line word = (bytes : List ℕ) → line ≡ word ++ bytes → ⊥

leaf_answer : (line : List ℕ) → HasNot line (codes "branch ") → HasNot line (codes "hall ")
    → HasNot line (codes "dual ")
    → LineAnswer line
unfolding LineAnswer
leaf_answer line branch hall dual =
    elim (same_list_or_not line (codes "over")) [
      | inl is ↦ at_word line (codes "over") is over_answer
      | inr over ↦ elim (same_list_or_not line (codes "full")) [
        | inl is ↦ at_word line (codes "full") is full_answer
        | inr full ↦ (None, λ part sound same. no_node line branch hall dual over full part same)
      ]
    ]

line_answer_at : (line : List ℕ) → LineAnswer line
line_answer_at line =
    elim (word_answer (codes "branch ") line) [
      | inl found ↦ at_word line (codes "branch " ++ found.0) found.1 (branch_answer found.0)
      | inr branch ↦ elim (word_answer (codes "hall ") line) [
        | inl found ↦ at_word line (codes "hall " ++ found.0) found.1 (hall_answer found.0)
        | inr hall ↦ elim (word_answer (codes "dual ") line) [
          | inl found ↦ at_word line (codes "dual " ++ found.0) found.1 (dual_answer found.0)
          | inr dual ↦ leaf_answer line branch hall dual
        ]
      ]
    ]

pub line_answer : (line : List ℕ) → (read : Option NodeHead) × ReadsLine line read
unfolding LineAnswer
line_answer = line_answer_at
