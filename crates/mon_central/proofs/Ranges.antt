-- Lists over a range of numbers, and facts of an answer.
use Rattle.std.proofs.Common.{◌≡◌, ℕ, zero, suc, ◌+◌, ◌<◌, List, [], ◌∷◌, ◌++◌, Result, Ok, Err, IfOk, refl, sym, ◌∙◌, ap, arith}
use Rattle.std.specs.List.{flat_map, range_with_len}
use Rattle.std.proofs.Math.Numerals.{add-one}
use Rattle.std.proofs.lemmas.Grind.{flat_map-append}
use Rattle.std.proofs.lemmas.List.{append-nil}

-- a fact of an answer, by what each answer has
pub if_ok_weaker : {T E : Type 0} {P Q : T → Type 0} (r : Result T E) → ((x : T) → P x → Q x) → IfOk r P → IfOk r Q
if_ok_weaker (Ok x) f p = f x p
if_ok_weaker (Err e) f p = tt

-- a fact of an answer, by three that each answer has
pub if_ok_by_three : {T E : Type 0} {A B C Q : T → Type 0} (r : Result T E) → ((x : T) → A x → B x → C x → Q x)
    → IfOk r A → IfOk r B → IfOk r C → IfOk r Q
if_ok_by_three (Ok x) f a b c = f x a b c
if_ok_by_three (Err fault) f a b c = tt

-- a fact of an answer, by five that each answer has
pub if_ok_by_five : {T E : Type 0} {A B C D F Q : T → Type 0} (r : Result T E)
    → ((x : T) → A x → B x → C x → D x → F x → Q x) → IfOk r A → IfOk r B → IfOk r C → IfOk r D → IfOk r F → IfOk r Q
if_ok_by_five (Ok x) f a b c d e = f x a b c d e
if_ok_by_five (Err fault) f a b c d e = tt

-- one more number
pub range-more : (from number : ℕ) → range_with_len from (suc number) ≡ range_with_len from number
    ++ (from + number) ∷ []
range-more from zero = ap (λ (k : ℕ). k ∷ []) (omega arith)
range-more from (suc number) =
    ap (λ (rest : List ℕ). from ∷ rest) (range-more (from + 1) number
    ∙ ap (λ (k : ℕ). range_with_len (from + 1) number ++ k ∷ []) (omega arith))

-- one more piece
pub flat_map-range : {X : Type 0} (f : ℕ → List X) (number : ℕ)
    → flat_map f (range_with_len 0 (number + 1)) ≡ flat_map f (range_with_len 0 number) ++ f number
flat_map-range f number =
    ap (λ n. flat_map f (range_with_len 0 n)) (add-one number)
    ∙ ap (flat_map f) (range-more 0 number ∙ ap (λ (k : ℕ). range_with_len 0 number ++ k ∷ []) (omega arith))
    ∙ flat_map-append f (range_with_len 0 number) (number ∷ [])
    ∙ ap (λ rest. flat_map f (range_with_len 0 number) ++ rest) (append-nil (f number))

-- the same pieces
pub flat_map-same : {X : Type 0} (f g : ℕ → List X) (number : ℕ) → ((k : ℕ) → k < number → f k ≡ g k)
    → flat_map f (range_with_len 0 number) ≡ flat_map g (range_with_len 0 number)
flat_map-same f g zero same = refl
flat_map-same f g (suc number) same =
    ap (λ n. flat_map f (range_with_len 0 n)) (sym (add-one number))
    ∙ flat_map-range f number
    ∙ ap (λ front. front ++ f number) (flat_map-same f g number (λ k below. same k (omega (arith, below))))
    ∙ ap (λ piece. flat_map g (range_with_len 0 number) ++ piece) (same number (omega arith))
    ∙ sym (flat_map-range g number)
    ∙ ap (λ n. flat_map g (range_with_len 0 n)) (add-one number)
