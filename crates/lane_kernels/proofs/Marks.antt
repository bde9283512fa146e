-- What the bits of eight numbers say of them: how many pass a test, and which is the first.
use Rattle.std.proofs.Common.{◌≡◌, ℕ, ◌+◌, ◌-◌, ◌*◌, ◌≤◌, ◌<◌, suc, Bool, true, false, not, cond}
use Rattle.std.proofs.Common.{List, [], ◌∷◌, length, get_or, map, take, drop}
use Rattle.std.proofs.Common.{sym, ◌∙◌, ap, arith, inl, inr}
use Rattle.std.specs.Int.Count.{count_trailing_zeros}
use Rattle.std.specs.Int.RustNames.{count_ones}
use Rattle.std.specs.List.{count_by, prefix_len}
use Rattle.std.specs.Simd.Lanes.{chunk, mask_l}
use Rattle.std.proofs.lemmas.Bool.{cases_lt}
use Rattle.std.proofs.lemmas.List.Sums.{sum_by-append, sum_by-take-drop}
use Rattle.std.proofs.lemmas.List.{take_rest}
use Rattle.std.proofs.Math.Seq.{take-add}
use Rattle.std.proofs.lemmas.Simd.{length-chunk, ones-mask_l, trailing_mask_l, none_from_empty_mask}
use Rattle.std.proofs.lemmas.Simd.{run_in_chunk_fails, run_in_chunk_stops}

mark_case : (b : Bool) (m n l : ℕ) → 0 < cond b 1 0 + 2 * m → (0 < m → n < l) → cond (not b) (1 + n) 0 < suc l
mark_case true m n l some rest = omega arith
mark_case false m n l some rest = omega (arith, rest (omega arith))

-- a list with a bit set has an element that passes
passes_within : {X : Type 0} (p : X → Bool) (xs : List X) → 0 < mask_l (map p xs)
    → prefix_len (λ x. not (p x)) xs < length xs
passes_within p [] some = absurd (omega arith)
passes_within p (x ∷ xs) some =
    mark_case (p x) (mask_l (map p xs)) (prefix_len (λ x. not (p x)) xs) (length xs) some (passes_within p xs)

-- the first that passes from a place on
pub record IsFirst {X : Type 0} (p : X → Bool) (d : X) (xs : List X) (from place : ℕ) : Type 0 where
  pub within : (from ≤ place) × (place < length xs)
  pub passes : p (get_or xs place d) ≡ true
  pub before : (i : ℕ) → from ≤ i → i < place → p (get_or xs i d) ≡ false

-- none of them passes
abbrev pub NoneBetween : {X : Type 0} → (X → Bool) → X → List X → ℕ → ℕ → Type 0
NoneBetween p d xs from end = (i : ℕ) → from ≤ i → i < end → p (get_or xs i d) ≡ false

pub none_joined : {X : Type 0} (p : X → Bool) (d : X) (xs : List X) (from at end : ℕ) → NoneBetween p d xs from at
    → NoneBetween p d xs at end → NoneBetween p d xs from end
none_joined p d xs from at end first second i above below = elim (cases_lt i at) [
  | inl earlier ↦ first i above earlier
  | inr later ↦ second i later below
]

pub first_marked : {X : Type 0} (p : X → Bool) (d : X) (xs : List X) (from at : ℕ) (bits : ℕ) → from ≤ at
    → at + 8 ≤ length xs → bits ≡ mask_l (map p (chunk at 8 xs)) → 0 < bits → NoneBetween p d xs from at
    → IsFirst p d xs from (at + count_trailing_zeros 64 bits)
first_marked p d xs from at bits above room is some none =
    let size = length-chunk at 8 xs room in
    let place = prefix_len (λ x. not (p x)) (chunk at 8 xs) in
    let set : 0 < mask_l (map p (chunk at 8 xs)) = omega (arith, is) in
    let counted : count_trailing_zeros 64 bits ≡ place =
    ap (count_trailing_zeros 64) is ∙ trailing_mask_l p 64 (chunk at 8 xs) (omega (arith, size)) set in
    let short = passes_within p (chunk at 8 xs) set in
    record {
      within = (omega arith, omega (arith, size, counted, short));
      passes = run_in_chunk_stops p xs at 8 (count_trailing_zeros 64 bits) d room counted
          (omega (arith, size, counted, short));
      before = none_joined p d xs from at (at + count_trailing_zeros 64 bits) none
          (run_in_chunk_fails p xs at 8 (count_trailing_zeros 64 bits) d room counted);
    }

pub none_marked : {X : Type 0} (p : X → Bool) (d : X) (xs : List X) (from at bits : ℕ) → at + 8 ≤ length xs
    → bits ≡ mask_l (map p (chunk at 8 xs)) → bits ≡ 0 → NoneBetween p d xs from at → NoneBetween p d xs from (at + 8)
none_marked p d xs from at bits room is empty none =
    none_joined p d xs from at (at + 8) none (none_from_empty_mask p xs at 8 d room (sym is ∙ empty))

-- the count of eight more
pub counted_more : {X : Type 0} (p : X → Bool) (xs : List X) (at bits : ℕ) → at + 8 ≤ length xs
    → bits ≡ mask_l (map p (chunk at 8 xs))
    → count_by p (take at xs) + count_ones bits ≡ count_by p (take (at + 8) xs)
counted_more p xs at bits room is =
    ap (λ (n : ℕ). count_by p (take at xs) + n) (ap count_ones is ∙ ones-mask_l p (chunk at 8 xs))
    ∙ sym (ap (count_by p) (take-add at 8 xs) ∙ sum_by-append (λ x. cond (p x) 1 0) (take at xs) (chunk at 8 xs))

-- the count of the rest, which ends the count of all
pub counted_all : {X : Type 0} (p : X → Bool) (xs : List X) (at : ℕ)
    → count_by p (take at xs) + count_by p (take (length xs - at) (drop at xs)) ≡ count_by p xs
counted_all p xs at =
    ap (λ (ys : List _). count_by p (take at xs) + count_by p ys) (take_rest xs at)
    ∙ sum_by-take-drop (λ x. cond (p x) 1 0) xs at
