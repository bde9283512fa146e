-- A node's line: which node it is of, and that it is one line.
use Rattle.std.proofs.Common.{◌≡◌, ℕ, ◌<◌, ◌≤◌, ◌^◌, true, ◌&&◌, List, [], ◌∷◌, ◌++◌, length, get_or, refl, sym, ◌∙◌, ap, arith, append_assoc, append-nil}
use Rattle.std.specs.Prelude.{nat_lt, nat_le, codes, not, ◌==◌}
use Rattle.std.specs.Fmt.{decimal}
use Rattle.std.specs.List.{flat_map, list_all}
use Rattle.std.specs.Char.{is_ascii_digit}
use Rattle.std.specs.Str.{all_ascii_digits}
use Rattle.std.proofs.lemmas.Bool.Decides.{nat_tests}
use Rattle.std.proofs.lemmas.Bool.{and_parts, leb-true}
use Rattle.std.proofs.lemmas.Fmt.{decimal_injective, digits_decimal}
use Rattle.std.proofs.lemmas.List.{append_cancel_left, append_cancel_right}
use Rattle.bound_certificate.specs.Formed.{are_prices}
use Rattle.bound_certificate.specs.Node.{Part, BranchPart, OverPart, HallPart, DualPart, FullPart}
use Rattle.certificate_text.specs.NodeHead.{IsSound}
use Rattle.certificate_text.specs.Numeral.{are_below, IsCounted}
use Rattle.certificate_text.specs.ReadText.{IsLine, ended}
use Rattle.certificate_text.specs.Text.{spaced, counted, part_line}
use Rattle.certificate_text.proofs.Spelled.{below_parts, counted_apart}
use Rattle.certificate_text.proofs.Numerals.{own}

-- the letter that a node's line begins with
abbrev letter : Part → ℕ
letter (BranchPart children) = 98
letter OverPart = 111
letter (HallPart names) = 104
letter (DualPart lambda mu) = 100
letter FullPart = 102

letter_is : (part : Part) → get_or (part_line part) 0 0 ≡ letter part
letter_is (BranchPart children) = refl
letter_is OverPart = refl
letter_is (HallPart names) = refl
letter_is (DualPart lambda mu) = refl
letter_is FullPart = refl

same_letter : (p q : Part) → part_line p ≡ part_line q → letter p ≡ letter q
same_letter p q same = sym (letter_is p) ∙ (ap (λ line. get_or line 0 0) same ∙ letter_is q)

-- the limits of a node, as facts
pub sound_branch : (children : ℕ) → IsSound (BranchPart children) → (1 ≤ children) × (children ≤ 8)
sound_branch children sound =
    let outer = and_parts (nat_lt 0 64 && nat_le 1 children) (nat_le children 8) sound in
    let inner = and_parts (nat_lt 0 64) (nat_le 1 children) outer.0 in
    (leb-true 1 children inner.1, leb-true children 8 outer.1)

pub sound_hall : (names : List ℕ) → IsSound (HallPart names) → IsCounted 64 64 (counted names) names []
sound_hall names sound =
    let parts = and_parts (nat_le (length names) 64) (are_below 64 names) sound in
    record {
      few = leb-true (length names) 64 parts.0;
      below = parts.1;
      parted = refl;
      parts = sym
          (append-nil (counted names));
    }

-- a Dual's lambdas, and its mus
pub sound_dual : (lambda mu : List ℕ) → IsSound (DualPart lambda mu)
    → IsCounted (2 ^ 56) 64 (counted lambda ++ (codes " " ++ counted mu)) lambda (codes " " ++ counted mu) × IsCounted
    (2 ^ 56) 32 (counted mu) mu []
sound_dual lambda mu sound =
    let outer = and_parts (nat_le (length lambda) 64 && nat_le (length mu) 32 && are_prices lambda)
    (are_prices mu) sound in
    let inner = and_parts (nat_le (length lambda) 64 && nat_le (length mu) 32) (are_prices lambda) outer.0 in
    let few = and_parts (nat_le (length lambda) 64) (nat_le (length mu) 32) inner.0 in (
      record { few = leb-true (length lambda) 64 few.0; below = inner.1; parted = refl; parts = refl },
      record {
        few = leb-true (length mu) 32 few.1;
        below = outer.1;
        parted = refl;
        parts = sym
            (append-nil (counted mu));
      },
    )

-- a Dual's line, cut before its line feed
pub dual_line : (lambda mu : List ℕ)
    → counted lambda ++ (codes " " ++ (counted mu ++ codes "\n")) ≡
    (counted lambda ++ (codes " " ++ counted mu)) ++ codes "\n"
dual_line lambda mu = sym (append_assoc (counted lambda) (codes " " ++ counted mu) (codes "\n"))

-- where a line begins as another node's does, it is no line of this one
other_letter : (part : Part) (x : ℕ) (bytes : List ℕ) → part_line part ≡ x ∷ bytes → letter part ≡ x
other_letter part x bytes same = sym (letter_is part) ∙ ap (λ line. get_or line 0 0) same

-- what a Branch's line has behind its word
pub branch_children : (bytes : List ℕ) (part : Part) → IsSound part
    → part_line part ≡ (codes "branch " ++ bytes) ++ codes "\n"
    → (children : ℕ) × (1 ≤ children) × (children ≤ 8) × (part ≡ BranchPart children) × (bytes ≡ decimal children)
branch_children bytes (BranchPart n) sound same =
    let tails = append_cancel_left (codes "branch ") (decimal n ++ codes "\n") (bytes ++ codes "\n") same in (
      n,
      (sound_branch n sound).0,
      (sound_branch n sound).1,
      refl,
      sym
          (append_cancel_right (decimal n) bytes (codes "\n") tails),
    )
branch_children bytes part sound same =
    let letters : letter part ≡ 98 = other_letter part 98 _ same in
    absurd (omega (arith, letters))

-- what a Hall's line has behind its word
pub hall_names : (bytes : List ℕ) (part : Part) → IsSound part → part_line part ≡ (codes "hall " ++ bytes) ++ codes "\n"
    → (names : List ℕ) × (part ≡ HallPart names) × IsCounted 64 64 bytes names []
hall_names bytes (HallPart names) sound same =
    let tails = append_cancel_left (codes "hall ") (counted names ++ codes "\n") (bytes ++ codes "\n") same in
    let words = append_cancel_right (counted names) bytes (codes "\n") tails in
    (names, refl, rw (← words) (sound_hall names sound))
hall_names bytes part sound same =
    let letters : letter part ≡ 104 = other_letter part 104 _ same in
    absurd (omega (arith, letters))

-- what a Dual's line has behind its word
pub dual_prices : (bytes : List ℕ) (part : Part) → IsSound part
    → part_line part ≡ (codes "dual " ++ bytes) ++ codes "\n"
    → (lambda mu : List ℕ) × (part ≡ DualPart lambda mu) × IsCounted (2 ^ 56) 64 bytes lambda (codes " " ++ counted mu)
    × IsCounted (2 ^ 56) 32 (counted mu) mu []
dual_prices bytes (DualPart lambda mu) sound same =
    let tails = append_cancel_left (codes "dual ") (counted lambda ++ (codes " " ++ (counted mu ++ codes "\n")))
    (bytes ++ codes "\n") same in
    let words = append_cancel_right (counted lambda ++ (codes " " ++ counted mu)) bytes (codes "\n")
    (sym (dual_line lambda mu) ∙ tails) in
    let parts = sound_dual lambda mu sound in
    (lambda, mu, refl, rw (← words) parts.0, parts.1)
dual_prices bytes part sound same =
    let letters : letter part ≡ 100 = other_letter part 100 _ same in
    absurd (omega (arith, letters))

-- a Dual's mus, from what follows its lambdas
pub dual_second : (bytes lambda behind second : List ℕ) (part : Part) → IsCounted (2 ^ 56) 64 bytes lambda behind
    → behind ≡ codes " " ++ second
    → IsSound part → part_line part ≡ (codes "dual " ++ bytes) ++ codes "\n"
    → (mu : List ℕ) × (part ≡ DualPart lambda mu) × IsCounted (2 ^ 56) 32 second mu []
dual_second bytes lambda behind second part counts is sound same =
    let found = dual_prices bytes part sound same in
    let apart = counted_apart (2 ^ 56) 64 bytes lambda behind found.0 (codes " " ++ counted found.1) (omega arith)
    (omega arith) counts found.3 in
    let words : second ≡ counted found.1 = append_cancel_left (codes " ") second (counted found.1) (sym is ∙ apart.1) in
    (found.1, found.2 ∙ ap (λ ls. DualPart ls found.1) (sym apart.0), rw words found.4)

-- a node within its limits is told by its line
pub part_line_injective : (p q : Part) → IsSound p → IsSound q → part_line p ≡ part_line q → p ≡ q
part_line_injective (BranchPart m) q sound_p sound_q same =
    let other = branch_children (decimal m) q sound_q (sym same) in
    let children : m ≡ other.0 =
    decimal_injective m other.0 (omega (arith, sound_branch m sound_p)) (omega (arith, other.2)) other.4 in
    ap (λ n. BranchPart n) children ∙ sym other.3
part_line_injective (HallPart xs) q sound_p sound_q same =
    let other = hall_names (counted xs) q sound_q (sym same) in
    let names = counted_apart 64 64 (counted xs) xs [] other.0 [] (omega arith) (omega arith)
    (sound_hall xs sound_p) other.2 in
    ap (λ ns. HallPart ns) names.0 ∙ sym other.1
part_line_injective (DualPart ls ms) q sound_p sound_q same =
    let parts = sound_dual ls ms sound_p in
    let other = dual_second (counted ls ++ (codes " " ++ counted ms)) ls (codes " " ++ counted ms)
    (counted ms) q parts.0 refl sound_q (sym same ∙ ap (λ tail. codes "dual " ++ tail) (dual_line ls ms)) in
    let mus = counted_apart (2 ^ 56) 32 (counted ms) ms [] other.0 [] (omega arith) (omega arith) parts.1 other.2 in
    ap (λ ns. DualPart ls ns) mus.0 ∙ sym other.1
part_line_injective OverPart OverPart sound_p sound_q same = refl
part_line_injective FullPart FullPart sound_p sound_q same = refl
part_line_injective p q sound_p sound_q same =
    let letters : letter p ≡ letter q = same_letter p q same in
    absurd (omega (arith, letters))

-- a line without a line feed, by a test
line_from_test : (bytes : List ℕ) → list_all (λ byte. not (byte == 10)) bytes ≡ true → IsLine bytes
line_from_test [] test = tt
line_from_test (x ∷ bytes) test =
    let parts = and_parts (not (x == 10)) (list_all (λ byte. not (byte == 10)) bytes) test in
    (grind (arith, nat_tests, parts.0), line_from_test bytes parts.1)

line_append : (xs ys : List ℕ) → IsLine xs → IsLine ys → IsLine (xs ++ ys)
line_append [] ys first second = second
line_append (x ∷ xs) ys first second = (first.0, line_append xs ys first.1 second)

line_digits : (ds : List ℕ) → all_ascii_digits ds ≡ true → IsLine ds
line_digits [] all = tt
line_digits (c ∷ cs) all =
    let parts = and_parts (is_ascii_digit c) (all_ascii_digits cs) all in
    (grind (arith, nat_tests, parts.0), line_digits cs parts.1)

line_decimal : (n : ℕ) → n < 2 ^ 64 → IsLine (decimal n)
line_decimal n small = line_digits (decimal n) (digits_decimal own n small)

line_spaced : (limit : ℕ) (xs : List ℕ) → limit ≤ 2 ^ 64 → are_below limit xs ≡ true → IsLine (flat_map spaced xs)
line_spaced limit [] small below = tt
line_spaced limit (x ∷ xs) small below =
    let parts = below_parts limit x xs below in
    line_append (spaced x) (flat_map spaced xs) (λ feed. absurd (omega arith), line_decimal x (omega (arith, parts.0)))
    (line_spaced limit xs small parts.1)

line_counted : (limit most : ℕ) (bytes xs rest : List ℕ) → limit ≤ 2 ^ 64 → most < 2 ^ 64
    → IsCounted limit most bytes xs rest → IsLine (counted xs)
line_counted limit most bytes xs rest small few counts =
    line_append (decimal (length xs)) (flat_map spaced xs) (line_decimal (length xs) (omega (arith, counts.few)))
    (line_spaced limit xs small counts.below)

-- a node's line is one line with its line feed
pub part_line_ended : (p : Part) → IsSound p → (line : List ℕ) × IsLine line × (part_line p ≡ ended line)
part_line_ended (BranchPart children) sound = (
  codes "branch " ++ decimal children,
  line_append (codes "branch ") (decimal children)
      (line_from_test (codes "branch ") refl) (line_decimal children (omega (arith, sound_branch children sound))),
  refl,
)
part_line_ended OverPart sound = (codes "over", line_from_test (codes "over") refl, refl)
part_line_ended (HallPart names) sound = (
  codes "hall " ++ counted names,
  line_append (codes "hall ") (counted names) (line_from_test (codes "hall ") refl)
      (line_counted 64 64 (counted names) names [] (omega arith) (omega arith) (sound_hall names sound)),
  refl,
)
part_line_ended (DualPart lambda mu) sound =
    let parts = sound_dual lambda mu sound in
    let second = line_append (codes " ") (counted mu) (line_from_test (codes " ") refl)
    (line_counted (2 ^ 56) 32 (counted mu) mu [] (omega arith) (omega arith) parts.1) in
    let first = line_counted (2 ^ 56) 64 (counted lambda ++ (codes " " ++ counted mu)) lambda (codes " " ++ counted mu)
    (omega arith) (omega arith) parts.0 in (
      codes "dual " ++ (counted lambda ++ (codes " " ++ counted mu)),
      line_append (codes "dual ") (counted lambda ++ (codes " " ++ counted mu)) (line_from_test (codes "dual ") refl)
          (line_append (counted lambda) (codes " " ++ counted mu) first second),
      ap (λ tail. codes "dual " ++ tail) (dual_line lambda mu),
    )
part_line_ended FullPart sound = (codes "full", line_from_test (codes "full") refl, refl)
