-- Counters cut level by level.
use Rattle.std.proofs.Common.{◌≡◌, ℕ, zero, suc, ◌+◌, ◌*◌, ◌<◌, ◌≤◌, unsigned_abs, List, [], ◌∷◌, ◌++◌, length, map}
use Rattle.std.proofs.Common.{take, drop, get_or, ℤ, pos, refl, sym, ◌∙◌, ap, subst, arith, length-append}
use Rattle.std.specs.List.{All, flat_map, range_with_len}
use Rattle.std.specs.Simd.Lanes.{zip2}
use Rattle.std.proofs.Math.Nat.{mul-le-mul_left}
use Rattle.std.proofs.lemmas.List.{drop_at, drop-drop, ext_get_or, get_or-drop, get_or-take, length-drop}
use Rattle.std.proofs.lemmas.List.{length-take-le, nil_from_length, take-append-drop, take_at}
use Rattle.std.proofs.lemmas.List.Elements.{All-append, All-cons, All-drop, All-head, All-nil, All-tail, All-take}
use Rattle.std.proofs.lemmas.List.FromFn.{get_or-map-range_with_len, length-map-range_with_len}
use Rattle.count_sketch.specs.Counters.{AllUpTo}
use Rattle.sketch_merge.specs.Levels.{levels_of}
use Rattle.sketch_merge.proofs.Zipped.{drop-zip2, take-zip2}

pub length-levels_of : (levels size : ℕ) (counters : List ℤ) → length (levels_of levels size counters) ≡ levels
unfolding levels_of
length-levels_of zero size counters = refl
length-levels_of (suc levels) size counters = omega (arith, length-levels_of levels size (drop size counters))

-- what is left behind the first level
left_length : (levels size : ℕ) (counters : List ℤ) → length counters ≡ suc levels * size
    → length (drop size counters) ≡ levels * size
left_length levels size counters whole = omega (arith, length-drop size counters)

-- each level has the size
pub shape-levels_of : (levels size : ℕ) (counters : List ℤ) → length counters ≡ levels * size
    → All (λ level. length level ≡ size) (levels_of levels size counters)
unfolding levels_of
shape-levels_of zero size counters whole = All-nil (λ (level : List ℤ). length level ≡ size)
shape-levels_of (suc levels) size counters whole =
    All-cons (λ (level : List ℤ). length level ≡ size) (take size counters) _
    (length-take-le size counters (omega arith))
    (shape-levels_of levels size (drop size counters) (left_length levels size counters whole))

-- a bound on all counters is one on each level's
pub bound-levels_of : (n levels size : ℕ) (counters : List ℤ) → AllUpTo n counters
    → All (AllUpTo n) (levels_of levels size counters)
unfolding levels_of
bound-levels_of n zero size counters small = All-nil (AllUpTo n)
bound-levels_of n (suc levels) size counters small =
    let Small : ℤ → Type 0 = λ value. unsigned_abs value ≤ n in
    All-cons (AllUpTo n) (take size counters) (levels_of levels size (drop size counters))
    (record { each = All-take Small size counters small.each })
    (bound-levels_of n levels size (drop size counters) (record { each = All-drop Small size counters small.each }))

-- the levels one after another are all counters
pub joined-levels_of : (levels size : ℕ) (counters : List ℤ) → length counters ≡ levels * size
    → flat_map (λ level. level) (levels_of levels size counters) ≡ counters
unfolding levels_of
joined-levels_of zero size counters whole = sym (nil_from_length counters (omega arith))
joined-levels_of (suc levels) size counters whole =
    ap (λ (rest : List ℤ). take size counters ++ rest)
    (joined-levels_of levels size (drop size counters) (left_length levels size counters whole))
    ∙ take-append-drop size counters

-- a bound on each level's counters is one on all
pub flat_bound-levels_of : (n levels size : ℕ) (counters : List ℤ) → length counters ≡ levels * size
    → All (AllUpTo n) (levels_of levels size counters) → AllUpTo n counters
unfolding levels_of
flat_bound-levels_of n zero size counters whole small =
    let Small : ℤ → Type 0 = λ value. unsigned_abs value ≤ n in
    record { each = subst (All Small) (sym (nil_from_length counters (omega arith))) (All-nil Small) }
flat_bound-levels_of n (suc levels) size counters whole small =
    let Small : ℤ → Type 0 = λ value. unsigned_abs value ≤ n in
    let others : List (List ℤ) = levels_of levels size (drop size counters) in
    let first = All-head (AllUpTo n) (take size counters) others small in
    let rest = flat_bound-levels_of n levels size (drop size counters) (left_length levels size counters whole)
    (All-tail (AllUpTo n) (take size counters) others small) in
    record {
      each = subst (All Small) (take-append-drop size counters)
          (All-append Small (take size counters) (drop size counters) first.each rest.each);
    }

-- parts of the size that lie one after another are the levels
pub parts-levels_of : (levels size : ℕ) (parts : List (List ℤ)) → 0 < size
    → length (flat_map (λ part. part) parts) ≡ levels * size → All (λ part. length part ≡ size) parts
    → levels_of levels size (flat_map (λ part. part) parts) ≡ parts
unfolding levels_of
parts-levels_of zero size [] some whole each = refl
parts-levels_of zero size (part ∷ parts) some whole each =
    let P : List ℤ → Type 0 = λ level. length level ≡ size in
    absurd (omega (arith, whole, All-head P part parts each, length-append part (flat_map (λ p. p) parts)))
parts-levels_of (suc levels) size [] some whole each = absurd (omega arith)
parts-levels_of (suc levels) size (part ∷ parts) some whole each =
    let P : List ℤ → Type 0 = λ level. length level ≡ size in
    let others : List ℤ = flat_map (λ p. p) parts in
    let size_is : length part ≡ size = All-head P part parts each in
    let left : length others ≡ levels * size = omega (arith, length-append part others) in
    rw (take_at part others size size_is, drop_at part others size size_is)
    (ap (λ (rest : List (List ℤ)). part ∷ rest)
    (parts-levels_of levels size parts some left (All-tail P part parts each)))

-- ---- a level by its number

-- a level ends where all counters do, or before
pub level_room : (level levels size : ℕ) → level < levels → level * size + size ≤ levels * size
level_room level levels size within =
    let next : level + 1 ≤ levels = omega arith in
    omega (arith, mul-le-mul_left size next)

pub level-levels_of : (levels size level : ℕ) (counters : List ℤ) → level < levels
    → get_or (levels_of levels size counters) level [] ≡ take size (drop (level * size) counters)
unfolding levels_of
level-levels_of zero size level counters within = absurd (omega arith)
level-levels_of (suc levels) size zero counters within =
    let none : zero * size ≡ 0 = omega arith in
    ap (λ (n : ℕ). take size (drop n counters)) (sym none)
level-levels_of (suc levels) size (suc level) counters within =
    let behind : size + level * size ≡ suc level * size = omega arith in
    level-levels_of levels size level (drop size counters) (omega arith)
    ∙ ap (take size) (drop-drop (level * size) size counters
    ∙ ap (λ (n : ℕ). drop n counters) behind)

-- ---- numbers that are made place by place

part_made : (f : ℕ → ℤ) (from size whole : ℕ) → from + size ≤ whole
    → take size (drop from (map f (range_with_len 0 whole))) ≡ map f (range_with_len from size)
part_made f from size whole room =
    let all : List ℤ = map f (range_with_len 0 whole) in
    let number : length all ≡ whole = length-map-range_with_len f 0 whole in
    let cut : length (take size (drop from all)) ≡ size =
    length-take-le size (drop from all) (omega (arith, number, length-drop from all)) in
    ext_get_or (pos 0) _ _ (cut ∙ sym (length-map-range_with_len f from size)) (λ place below.
    let within : place < size = omega (arith, cut) in
    get_or-take size (drop from all) place (pos 0) within
    ∙ get_or-drop from all place (pos 0)
    ∙ get_or-map-range_with_len f 0 whole (from + place) (from + place) (pos 0) (omega arith) (omega arith)
    ∙ sym (get_or-map-range_with_len f from size place (from + place) (pos 0) within refl))

pub made-levels_of : (f : ℕ → ℤ) (levels size : ℕ)
    → levels_of levels size (map f (range_with_len 0 (levels * size)))
    ≡ map (λ level. map f (range_with_len (level * size) size)) (range_with_len 0 levels)
made-levels_of f levels size =
    let all : List ℤ = map f (range_with_len 0 (levels * size)) in
    let made : ℕ → List ℤ = λ level. map f (range_with_len (level * size) size) in
    let number = length-levels_of levels size all in
    ext_get_or [] _ _ (number ∙ sym (length-map-range_with_len made 0 levels)) (λ level below.
    let within : level < levels = omega (arith, number) in
    level-levels_of levels size level all within
    ∙ part_made f (level * size) size (levels * size) (level_room level levels size within)
    ∙ sym (get_or-map-range_with_len made 0 levels level level [] within (omega arith)))

-- ---- place by place

-- the levels of f of two lists are those of f of their levels
pub zip2-levels_of : (f : ℤ → ℤ → ℤ) (levels size : ℕ) (xs ys : List ℤ)
    → levels_of levels size (zip2 f xs ys) ≡ zip2 (zip2 f) (levels_of levels size xs) (levels_of levels size ys)
unfolding levels_of
zip2-levels_of f zero size xs ys = refl
zip2-levels_of f (suc levels) size xs ys =
    (λ i. take-zip2 f size xs ys i ∷ levels_of levels size (drop-zip2 f size xs ys i))
    ∙ ap (λ (rest : List (List ℤ)). zip2 f (take size xs) (take size ys) ∷ rest)
    (zip2-levels_of f levels size (drop size xs) (drop size ys))
