-- How long the text of a tree is.
use Rattle.std.proofs.Common.{◌≡◌, ℕ, ◌+◌, ◌*◌, ◌^◌, ◌≤◌, ◌<◌, true, List, [], ◌∷◌, ◌++◌, length, codes, decimal, ap, arith}
use Rattle.std.specs.List.{AllByRecursion, flat_map}
use Rattle.std.proofs.lemmas.Bool.{and_parts}
use Rattle.std.proofs.lemmas.Bool.Decides.{nat_tests}
use Rattle.std.proofs.lemmas.Fmt.{length-decimal-le}
use Rattle.std.proofs.lemmas.List.{length-append}
use Rattle.bound_certificate.specs.Formed.{branches, is_formed, is_formed_at}
use Rattle.bound_certificate.specs.Node.{Part, BranchPart, OverPart, HallPart, DualPart, FullPart}
use Rattle.certificate_text.specs.NodeHead.{IsSound}
use Rattle.certificate_text.specs.Numeral.{are_below}
use Rattle.certificate_text.specs.Parts.{parts_of}
use Rattle.certificate_text.specs.ReadText.{ended, head_line, text_limit}
use Rattle.certificate_text.specs.Text.{spaced, counted, part_line, text_of}
use Rattle.bound_certificate.specs.declared.tree.Tree.{Tree}
use Rattle.bound_certificate.proofs.Counted.{nodes-le}
use Rattle.certificate_text.proofs.Lines.{sound_branch, sound_hall, sound_dual}
use Rattle.certificate_text.proofs.Parts.{length-parts_of}
use Rattle.certificate_text.proofs.Spelled.{below_parts}
use Rattle.certificate_text.proofs.TextParts.{sound_parts, text_of-parts}

-- a number below 2^56 has at most 17 digits
size_decimal : (n : ℕ) → n < 2 ^ 56 → length (decimal n) ≤ 17
size_decimal n small = length-decimal-le 17 n (omega arith) (omega (arith, small)) (omega (arith, small))

size_spaced : (limit : ℕ) (xs : List ℕ) → limit ≤ 2 ^ 56 → are_below limit xs ≡ true
    → length (flat_map spaced xs) ≤ 18 * length xs
size_spaced limit [] low below = omega arith
size_spaced limit (x ∷ xs) low below =
    let parts = below_parts limit x xs below in
    let digits = size_decimal x (omega (arith, parts.0, low)) in
    let others = size_spaced limit xs low parts.1 in
    omega (arith, length-append (spaced x) (flat_map spaced xs), length-append (codes " ") (decimal x), digits, others)

size_counted : (limit most : ℕ) (xs : List ℕ) → limit ≤ 2 ^ 56 → most ≤ 64 → length xs ≤ most
    → are_below limit xs ≡ true → length (counted xs) ≤ 17 + 18 * most
size_counted limit most xs low many few below =
    omega (
      arith,
      length-append (decimal (length xs)) (flat_map spaced xs),
      size_decimal (length xs)
          (omega (arith, few, many)),
      size_spaced limit xs low below,
      few,
    )

-- a node's line has at most 1769 bytes
size_part : (part : Part) → IsSound part → length (part_line part) ≤ 1769
size_part (BranchPart children) sound =
    let digits = size_decimal children (omega (arith, sound_branch children sound)) in
    omega (
      arith,
      length-append (codes "branch ") (decimal children ++ codes "\n"),
      length-append (decimal children)
          (codes "\n"),
      digits,
    )
size_part OverPart sound = omega arith
size_part (HallPart names) sound =
    let counts = sound_hall names sound in
    let size = size_counted 64 64 names (omega arith) (omega arith) counts.few counts.below in
    omega (
      arith,
      length-append (codes "hall ") (counted names ++ codes "\n"),
      length-append (counted names)
          (codes "\n"),
      size,
    )
size_part (DualPart lambda mu) sound =
    let both = sound_dual lambda mu sound in
    let first = size_counted (2 ^ 56) 64 lambda (omega arith) (omega arith) both.0.few both.0.below in
    let second = size_counted (2 ^ 56) 32 mu (omega arith) (omega arith) both.1.few both.1.below in
    omega (
      arith,
      length-append (codes "dual ") (counted lambda ++ (codes " " ++ (counted mu ++ codes "\n"))),
      length-append (counted lambda) (codes " " ++ (counted mu ++ codes "\n")),
      length-append (codes " ") (counted mu ++ codes "\n"),
      length-append (counted mu) (codes "\n"),
      first,
      second,
    )
size_part FullPart sound = omega arith

size_parts : (parts : List Part) → AllByRecursion IsSound parts
    → length (flat_map part_line parts) ≤ 1769 * length parts
size_parts [] each = omega arith
size_parts (part ∷ parts) each =
    omega (
      arith,
      length-append (part_line part)
          (flat_map part_line parts),
      size_part part each.0,
      size_parts parts each.1,
    )

-- so the text of a tree within its limits is within the limit of texts
pub text_fits : (tree : Tree) → is_formed tree ≡ true → length (text_of tree) ≤ text_limit
unfolding is_formed
text_fits tree formed =
    let limits = and_parts (is_formed_at tree 0) _ formed in
    let lines = size_parts (parts_of tree) (sound_parts tree 0 limits.0) in
    let few : branches tree ≤ 4096 = grind (arith, nat_tests, limits.1) in
    let whole = ap length (text_of-parts tree) in
    omega (
      arith,
      whole,
      length-append (ended head_line) (flat_map part_line (parts_of tree) ++ codes "end\n"),
      length-append (flat_map part_line (parts_of tree)) (codes "end\n"),
      lines,
      length-parts_of tree,
      nodes-le tree 0 limits.0,
      few,
    )
