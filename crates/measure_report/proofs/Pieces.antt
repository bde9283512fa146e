-- Pieces over a range of numbers.
use Rattle.std.proofs.Common.{◌≡◌, ℕ, zero, suc, ◌+◌, ◌<◌, ◌≤◌, List, [], ◌∷◌, ◌++◌, refl, ◌∙◌, ap, arith, append-nil}
use Rattle.std.specs.List.{flat_map, range_with_len}
use Rattle.std.proofs.lemmas.Grind.{flat_map-append}
use Rattle.bound_certificate.proofs.Below.{range_with_len-more}

-- one more piece
pub one_more_piece : {X : Type 0} (f : ℕ → List X) (number : ℕ)
    → flat_map f (range_with_len 0 (number + 1)) ≡ flat_map f (range_with_len 0 number) ++ f number
one_more_piece f number =
    ap (flat_map f) (range_with_len-more 0 number ∙ ap (λ (k : ℕ). range_with_len 0 number ++ k ∷ []) (omega arith))
    ∙ flat_map-append f (range_with_len 0 number) (number ∷ [])
    ∙ ap (λ rest. flat_map f (range_with_len 0 number) ++ rest) (append-nil (f number))

-- the same pieces
pub same_pieces : {X : Type 0} (f g : ℕ → List X) (from number : ℕ)
    → ((k : ℕ) → from ≤ k → k < from + number → f k ≡ g k)
    → flat_map f (range_with_len from number) ≡ flat_map g (range_with_len from number)
same_pieces f g from zero same = refl
same_pieces f g from (suc number) same =
    ap (λ piece. piece ++ flat_map f (range_with_len (from + 1) number)) (same from (omega arith) (omega arith))
    ∙ ap (λ rest. g from ++ rest) (same_pieces f g (from + 1) number (λ k low below.
    same k (omega (arith, low)) (omega (arith, below))))
