-- What the operations on eight lanes give.
use Rattle.std.proofs.Common.{◌≡◌, ℕ, ◌+◌, ◌-◌, ◌≤◌, ◌^◌, ◌%◌, zero, suc, List, [], ◌∷◌, length}
use Rattle.std.proofs.Common.{get_or, drop, map, ℤ, pos, negsuc, ◌+ℤ◌, ◌-ℤ◌, unsigned_abs, refl, sym, ◌∙◌, ap, arith}
use Rattle.std.proofs.Common.{w64, to_z, of_z, FitsSigned, false, cond, not}
use Rattle.std.proofs.Common.{nat_eq, replicate}
use Rattle.std.specs.Int.{int_wrapping_add, int_wrapping_sub}
use Rattle.std.specs.Ordering.{int_eq}
use Rattle.std.specs.Simd.Lanes.{zip2, Each1, Each2, chunk, mask_l, top}
use Rattle.std.proofs.lemmas.List.{length-map}
use Rattle.std.proofs.lemmas.Bool.{ne_eqb}
use Rattle.std.proofs.lemmas.List.Elements.{All-get_or, All-take, All-drop}
use Rattle.std.proofs.lemmas.Simd.{Each1-from_get_or, Each2-of, bitmask_splat, map-map}
use Rattle.lane_kernels.specs.Nonzero.{is_nonzero}
use Rattle.lane_kernels.specs.Sums.{AllUpTo}
use Rattle.std.proofs.lemmas.Int.{wrapping_add_is, wrapping_sub_is, int_wrap_fits, fits_signed_from_abs, ints}

-- an operation on the bits that gives g of two numbers, number by number
pub signed_lanes : (f : ℕ → ℕ → ℕ) (g : ℤ → ℤ → ℤ) (xs ys : List ℤ)
    → Each2 (λ x y. to_z w64 (f (of_z w64 x) (of_z w64 y)) ≡ g x y) xs ys
    → map (to_z w64) (zip2 f (map (of_z w64) xs) (map (of_z w64) ys)) ≡ zip2 g xs ys
signed_lanes f g [] ys all = refl
signed_lanes f g (x ∷ xs) [] all = refl
signed_lanes f g (x ∷ xs) (y ∷ ys) all = λ i. all.0 i ∷ signed_lanes f g xs ys all.1 i

abs_sum : (x y : ℤ) → unsigned_abs (x +ℤ y) ≤ unsigned_abs x + unsigned_abs y
abs_sum x y = omega (arith, ints)

abs_difference : (x y : ℤ) → unsigned_abs (x -ℤ y) ≤ unsigned_abs x + unsigned_abs y
abs_difference x y = omega (arith, ints)

pub lane_sum : (x y : ℤ) → unsigned_abs x ≤ 2 ^ 62 - 1 → unsigned_abs y ≤ 2 ^ 62 - 1 → int_wrapping_add w64 x y ≡ x +ℤ y
lane_sum x y small other =
    wrapping_add_is w64 x y (fits_signed_from_abs w64 x (omega arith)) (fits_signed_from_abs w64 y (omega arith))
    ∙ int_wrap_fits w64 (x +ℤ y) (fits_signed_from_abs w64 (x +ℤ y) (omega (arith, abs_sum x y)))

pub lane_difference : (x y : ℤ) → unsigned_abs x ≤ 2 ^ 62 - 1 → unsigned_abs y ≤ 2 ^ 62 - 1
    → int_wrapping_sub w64 x y ≡ x -ℤ y
lane_difference x y small other =
    wrapping_sub_is w64 x y (fits_signed_from_abs w64 x (omega arith)) (fits_signed_from_abs w64 y (omega arith))
    ∙ int_wrap_fits w64 (x -ℤ y) (fits_signed_from_abs w64 (x -ℤ y) (omega (arith, abs_difference x y)))

each_small : (n : ℕ) (xs : List ℤ) → AllUpTo n xs → Each1 (λ x. unsigned_abs x ≤ n) xs
each_small n xs all =
    Each1-from_get_or (λ x. unsigned_abs x ≤ n) xs (pos 0) (λ i below.
    All-get_or (λ x. unsigned_abs x ≤ n) xs i (pos 0) below all)

pub lane_sums : (xs ys : List ℤ) → AllUpTo (2 ^ 62 - 1) xs → AllUpTo (2 ^ 62 - 1) ys
    → Each2 (λ x y. int_wrapping_add w64 x y ≡ x +ℤ y) xs ys
lane_sums xs ys small other =
    Each2-of (λ x. unsigned_abs x ≤ 2 ^ 62 - 1) (λ y. unsigned_abs y ≤ 2 ^ 62 - 1)
    (λ x y. int_wrapping_add w64 x y ≡ x +ℤ y)
    lane_sum xs ys (each_small (2 ^ 62 - 1) xs small) (each_small (2 ^ 62 - 1) ys other)

pub lane_differences : (xs ys : List ℤ) → AllUpTo (2 ^ 62 - 1) xs → AllUpTo (2 ^ 62 - 1) ys
    → Each2 (λ x y. int_wrapping_sub w64 x y ≡ x -ℤ y) xs ys
lane_differences xs ys small other =
    Each2-of (λ x. unsigned_abs x ≤ 2 ^ 62 - 1) (λ y. unsigned_abs y ≤ 2 ^ 62 - 1)
    (λ x y. int_wrapping_sub w64 x y ≡ x -ℤ y)
    lane_difference xs ys (each_small (2 ^ 62 - 1) xs small) (each_small (2 ^ 62 - 1) ys other)

int_apart : (x y : ℤ) → (x ≡ y → ⊥) → int_eq x y ≡ false
int_apart x y apart = grind (arith, ints)

-- a number is 0 exactly where its bits are
nonzero_lane : (x : ℤ) → FitsSigned w64 x → not (nat_eq (of_z w64 x) 0) ≡ is_nonzero x
nonzero_lane (pos zero) fits = refl
nonzero_lane (pos (suc n)) fits =
    ap not (ne_eqb (suc n) 0 (λ e. absurd (omega arith)) ∙ sym (int_apart (pos (suc n)) (pos 0) (λ e. cc)))
nonzero_lane (negsuc n) fits = ap not (ne_eqb (2 ^ 64 - suc n) 0 (λ e. absurd (omega (arith, ints))))

nonzero_lanes : (xs : List ℤ) → Each1 (λ x. FitsSigned w64 x) xs
    → map (λ x. not (nat_eq (of_z w64 x) 0)) xs ≡ map is_nonzero xs
nonzero_lanes [] all = refl
nonzero_lanes (x ∷ xs) all = λ i. nonzero_lane x all.0 i ∷ nonzero_lanes xs all.1 i

-- the bits of eight lanes
pub nonzero_bits : (xs : List ℤ) → length xs ≡ 8 → Each1 (λ x. FitsSigned w64 x) xs
    → mask_l (map (top 63)
    (zip2 (λ a b. cond (not (nat_eq a b)) (2 ^ 64 - 1) 0) (map (of_z w64) xs) (replicate 8 0))) % 2 ^ 64
    ≡ mask_l (map is_nonzero xs)
nonzero_bits xs eight fits =
    bitmask_splat w64 (λ a b. not (nat_eq a b)) (map (of_z w64) xs) 8 0 (length-map xs (of_z w64) ∙ eight) (omega arith)
    ∙ ap mask_l (map-map (λ a. not (nat_eq a 0)) (of_z w64) xs ∙ nonzero_lanes xs fits)

-- parts of a list whose numbers are small
pub small_drop : (n i : ℕ) (xs : List ℤ) → AllUpTo n xs → AllUpTo n (drop i xs)
small_drop n i xs all = All-drop (λ x. unsigned_abs x ≤ n) i xs all

pub small_chunk : (n i m : ℕ) (xs : List ℤ) → AllUpTo n xs → AllUpTo n (chunk i m xs)
small_chunk n i m xs all = All-take (λ x. unsigned_abs x ≤ n) m (drop i xs) (small_drop n i xs all)

-- what holds of each of eight lanes
pub each_of_eight : (P : ℤ → Type 0) (xs : List ℤ) → length xs ≡ 8
    → P (get_or xs 0 (pos 0)) → P (get_or xs 1 (pos 0)) → P (get_or xs 2 (pos 0)) → P (get_or xs 3 (pos 0))
    → P (get_or xs 4 (pos 0)) → P (get_or xs 5 (pos 0)) → P (get_or xs 6 (pos 0)) → P (get_or xs 7 (pos 0))
    → Each1 P xs
each_of_eight P (x0 ∷ x1 ∷ x2 ∷ x3 ∷ x4 ∷ x5 ∷ x6 ∷ x7 ∷ []) eight a b c d e f g h =
    (a, (b, (c, (d, (e, (f, (g, (h, tt))))))))
each_of_eight P xs eight a b c d e f g h = absurd (omega arith)
