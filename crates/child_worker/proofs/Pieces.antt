-- Bytes that were taken piece by piece.
use Rattle.std.proofs.Common.{◌≡◌, ℕ, ◌+◌, List, ◌++◌, take, drop, sym, ◌∙◌, ap, append_assoc, take-append-drop, take-add}

-- a part of the rest of a piece, behind all before it
pub taken_on : (bytes piece : List ℕ) (n m : ℕ)
    → (bytes ++ take n piece) ++ take m (drop n piece) ≡ bytes ++ take (n + m) piece
taken_on bytes piece n m =
    append_assoc bytes (take n piece) (take m (drop n piece))
    ∙ ap (λ (l : List ℕ). bytes ++ l) (sym (take-add n m piece))

-- the rest of a piece and what follows it, behind all before them
pub followed_on : (bytes piece rest : List ℕ) (n : ℕ)
    → (bytes ++ take n piece) ++ (drop n piece ++ rest) ≡ bytes ++ (piece ++ rest)
followed_on bytes piece rest n =
    append_assoc bytes (take n piece) (drop n piece ++ rest)
    ∙ ap (λ (l : List ℕ). bytes ++ l)
    (sym (append_assoc (take n piece) (drop n piece) rest)
    ∙ ap (λ (l : List ℕ). l ++ rest) (take-append-drop n piece))
