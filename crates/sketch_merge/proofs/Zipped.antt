-- Two lists of levels, level by level.
use Rattle.std.proofs.Common.{◌≡◌, ℕ, zero, suc, ◌+◌, ◌<◌, ◌≤◌, List, [], ◌∷◌, ◌++◌, length, map, take, drop, get_or}
use Rattle.std.proofs.Common.{refl, sym, ◌∙◌, ap, subst, arith}
use Rattle.std.specs.List.{All}
use Rattle.std.specs.Simd.Lanes.{zip2}
use Rattle.std.proofs.lemmas.List.{get_or-map, length-map, map_push, take_all, take_more}
use Rattle.std.proofs.lemmas.List.Elements.{All-cons, All-head, All-nil, All-tail}
use Rattle.std.proofs.lemmas.Simd.{get_or-zip2, length-zip2}

-- what holds of f of two elements holds of each
pub All-zip2 : {X Y Z : Type 0} (P : X → Type 0) (Q : Y → Type 0) (R : Z → Type 0) (f : X → Y → Z)
    → ((x : X) (y : Y) → P x → Q y → R (f x y)) → (xs : List X) (ys : List Y) → All P xs → All Q ys
    → All R (zip2 f xs ys)
All-zip2 P Q R f both [] ys first second = All-nil R
All-zip2 P Q R f both (x ∷ xs) [] first second = All-nil R
All-zip2 P Q R f both (x ∷ xs) (y ∷ ys) first second =
    All-cons R (f x y) (zip2 f xs ys) (both x y (All-head P x xs first) (All-head Q y ys second))
    (All-zip2 P Q R f both xs ys (All-tail P x xs first) (All-tail Q y ys second))

-- one element more of f of two lists
pub zip_more : {X : Type 0} (f : X → X → X) (xs ys : List X) (i : ℕ) (d : X) → i < length xs → length xs ≡ length ys
    → take (i + 1) (zip2 f xs ys) ≡ take i (zip2 f xs ys) ++ f (get_or xs i d) (get_or ys i d) ∷ []
zip_more {X} f xs ys i d within same =
    let size = length-zip2 f xs ys same in
    let here = get_or-zip2 f xs ys i d d d within (omega arith) in
    take_more (zip2 f xs ys) i d (omega (arith, size)) ∙ ap (λ (a : X). take i (zip2 f xs ys) ++ a ∷ []) here

-- ---- cut

pub take-zip2 : {X Y Z : Type 0} (f : X → Y → Z) (n : ℕ) (xs : List X) (ys : List Y)
    → take n (zip2 f xs ys) ≡ zip2 f (take n xs) (take n ys)
take-zip2 f zero xs ys = refl
take-zip2 f (suc n) [] ys = refl
take-zip2 f (suc n) (x ∷ xs) [] = refl
take-zip2 {X} {Y} {Z} f (suc n) (x ∷ xs) (y ∷ ys) = ap (λ (rest : List Z). f x y ∷ rest) (take-zip2 f n xs ys)

zip2-none : {X Y Z : Type 0} (f : X → Y → Z) (xs : List X) → [] ≡ zip2 f xs []
zip2-none f [] = refl
zip2-none f (x ∷ xs) = refl

pub drop-zip2 : {X Y Z : Type 0} (f : X → Y → Z) (n : ℕ) (xs : List X) (ys : List Y)
    → drop n (zip2 f xs ys) ≡ zip2 f (drop n xs) (drop n ys)
drop-zip2 f zero xs ys = refl
drop-zip2 f (suc n) [] ys = refl
drop-zip2 f (suc n) (x ∷ xs) [] = zip2-none f (drop n xs)
drop-zip2 f (suc n) (x ∷ xs) (y ∷ ys) = drop-zip2 f n xs ys

-- ---- lists whose elements are seen

-- an element that was read
pub seen_at : {V X : Type 0} (view : V → X) (xs : List V) (i : ℕ) (x : V) (e : X) → i < length xs → x ≡ get_or xs i x
    → get_or (map view xs) i e ≡ view x
seen_at view xs i x e within read = get_or-map view xs i x e within ∙ ap view (sym read)

pub seen_all : {V X : Type 0} (P : X → Type 0) (view : V → X) (xs : List V) (i : ℕ) (x : V) → i < length xs
    → x ≡ get_or xs i x → All P (map view xs) → P (view x)
seen_all P view xs i x within read all =
    subst P (seen_at view xs i x (view x) within read) (all i (view x) (omega (arith, length-map xs view)))

-- one element more, which is f of two that were read
pub seen_more : {V W X : Type 0} (view : V → X) (other : W → X) (f : X → X → X) (xs : List V) (ys : List W)
    (all : List V) (i : ℕ) (x : V) (y : W) (v : V)
    → i < length xs → length xs ≡ length ys → x ≡ get_or xs i x → y ≡ get_or ys i y
    → view v ≡ f (view x) (other y) → map view all ≡ take i (zip2 f (map view xs) (map other ys))
    → map view (all ++ v ∷ []) ≡ take (i + 1) (zip2 f (map view xs) (map other ys))
seen_more {V} {W} {X} view other f xs ys all i x y v within same first second value so_far =
    let lengths : length (map view xs) ≡ length (map other ys) =
    length-map xs view ∙ same ∙ sym (length-map ys other) in
    let wide : i < length (map view xs) = omega (arith, length-map xs view) in
    let one = seen_at view xs i x (view v) within first in
    let two = seen_at other ys i y (view v) (omega arith) second in
    map_push view all v
    ∙ ap (λ (front : List X). front ++ view v ∷ []) so_far
    ∙ ap (λ (a : X). take i (zip2 f (map view xs) (map other ys)) ++ a ∷ [])
    (value ∙ sym (ap (λ (a : X). f a (get_or (map other ys) i (view v))) one ∙ ap (λ (b : X). f (view x) b) two))
    ∙ sym (zip_more f (map view xs) (map other ys) i (view v) wide lengths)

-- all of them
pub seen_whole : {V W X : Type 0} (view : V → X) (other : W → X) (f : X → X → X) (xs : List V) (ys : List W)
    (all : List V) (i : ℕ) → length xs ≤ i → length xs ≡ length ys
    → map view all ≡ take i (zip2 f (map view xs) (map other ys)) → map view all ≡ zip2 f (map view xs) (map other ys)
seen_whole view other f xs ys all i end same so_far =
    let lengths : length (map view xs) ≡ length (map other ys) =
    length-map xs view ∙ same ∙ sym (length-map ys other) in
    so_far ∙ take_all i (zip2 f (map view xs) (map other ys))
    (omega (arith, length-zip2 f (map view xs) (map other ys) lengths, length-map xs view))
