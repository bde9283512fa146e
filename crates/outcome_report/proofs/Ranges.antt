-- Pieces over a range of numbers.
use Rattle.std.proofs.Common.{◌≡◌, ℕ, zero, suc, ◌+◌, List, ◌∷◌, [], ◌++◌, ◌∙◌, ap, arith}
use Rattle.std.specs.List.{flat_map, range_with_len}
use Rattle.std.proofs.Math.Numerals.{add-one}
use Rattle.std.proofs.lemmas.Grind.{flat_map-append}
use Rattle.std.proofs.lemmas.List.{append-nil}

-- one more number
range-more : (from number : ℕ) → range_with_len from (suc number) ≡ range_with_len from number ++ (from + number) ∷ []
range-more from zero = ap (λ (k : ℕ). k ∷ []) (omega arith)
range-more from (suc number) =
    ap (λ (rest : List ℕ). from ∷ rest)
    (range-more (from + 1) number
    ∙ ap (λ (k : ℕ). range_with_len (from + 1) number ++ k ∷ []) (omega arith))

-- one more piece
pub one_more_piece : {X : Type 0} (f : ℕ → List X) (number : ℕ)
    → flat_map f (range_with_len 0 (number + 1)) ≡ flat_map f (range_with_len 0 number) ++ f number
one_more_piece f number =
    ap (λ n. flat_map f (range_with_len 0 n)) (add-one number)
    ∙ ap (flat_map f) (range-more 0 number ∙ ap (λ (k : ℕ). range_with_len 0 number ++ k ∷ []) (omega arith))
    ∙ flat_map-append f (range_with_len 0 number) (number ∷ [])
    ∙ ap (λ rest. flat_map f (range_with_len 0 number) ++ rest) (append-nil (f number))
