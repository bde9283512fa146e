-- Lists over a range of numbers.
use Rattle.std.proofs.Common.{◌≡◌, ℕ, ◌+◌, ◌*◌, ◌<◌, zero, suc, List, ◌++◌, map, length, get_or, refl, ◌∙◌, ap, arith}
use Rattle.std.specs.List.{flat_map, range_with_len}
use Rattle.std.proofs.lemmas.List.{get_or-append-add, get_or_append_left}
use Rattle.std.proofs.lemmas.List.FromFn.{fill_by_all, get_or-map-range_with_len, length-map-range_with_len}

-- two functions that agree on two ranges, place by place
pub map_agree : {X : Type 0} (f g : ℕ → X) (a n : ℕ) → ((k : ℕ) → k < n → f (a + k) ≡ g k)
    → map f (range_with_len a n) ≡ map g (range_with_len 0 n)
map_agree f g a n agree =
    fill_by_all g (map f (range_with_len a n)) n (g 0) (length-map-range_with_len f a n)
    (λ k below. get_or-map-range_with_len f a n k (a + k) (g 0) below refl ∙ agree k below)

-- two functions that agree below n
pub map_below : {X : Type 0} (f g : ℕ → X) (n : ℕ) → ((k : ℕ) → k < n → f k ≡ g k)
    → map f (range_with_len 0 n) ≡ map g (range_with_len 0 n)
map_below f g n agree = map_agree f g 0 n (λ k below. ap f (omega arith) ∙ agree k below)

-- lists of one length that lie one after another
pub get_or-pieces : {X : Type 0} (f : ℕ → List X) (size a n i k : ℕ) (d : X) → ((j : ℕ) → length (f j) ≡ size)
    → i < n → k < size → get_or (flat_map f (range_with_len a n)) (i * size + k) d ≡ get_or (f (a + i)) k d
get_or-pieces f size a zero i k d each within inside = absurd (omega arith)
get_or-pieces f size a (suc n) zero k d each within inside =
    let here : zero * size + k ≡ k = omega arith in
    let first : a ≡ a + zero = omega arith in
    ap (λ (place : ℕ). get_or (f a ++ flat_map f (range_with_len (a + 1) n)) place d) here
    ∙ get_or_append_left (f a) (flat_map f (range_with_len (a + 1) n)) d k (omega (arith, each a))
    ∙ ap (λ (j : ℕ). get_or (f j) k d) first
get_or-pieces f size a (suc n) (suc i) k d each within inside =
    let behind : suc i * size + k ≡ length (f a) + (i * size + k) = omega (arith, each a) in
    let next : a + 1 + i ≡ a + suc i = omega arith in
    ap (λ (place : ℕ). get_or (f a ++ flat_map f (range_with_len (a + 1) n)) place d) behind
    ∙ get_or-append-add (f a) (flat_map f (range_with_len (a + 1) n)) (i * size + k) d
    ∙ get_or-pieces f size (a + 1) n i k d each (omega arith) inside
    ∙ ap (λ (j : ℕ). get_or (f j) k d) next
