-- What is gathered level by level.
use Rattle.std.proofs.Common.{◌≡◌, ℕ, ℤ, ◌+◌, ◌*◌, ◌^◌, ◌≤◌, List, [], ◌∷◌, ◌++◌, get_or, unsigned_abs, sym, ◌∙◌, ap, arith, append-nil, map-id}
use Rattle.std.specs.List.{All, flat_map, range_with_len}
use Rattle.std.specs.Int.{w64}
use Rattle.std.proofs.lemmas.Grind.{flat_map-append}
use Rattle.std.proofs.lemmas.Int.{fits_signed_from_abs}
use Rattle.std.proofs.lemmas.List.Elements.{All-append}
use Rattle.std.proofs.lemmas.List.FromFn.{map-range_with_len_more}
use Rattle.count_sketch.specs.Counters.{AllUpTo}
use Rattle.reply_format.specs.Reply.{IsCounter}

range_more : (n : ℕ) → range_with_len 0 (n + 1) ≡ range_with_len 0 n ++ n ∷ []
range_more n =
    let f : ℕ → ℕ = λ k. k in
    sym (map-id (range_with_len 0 (n + 1))) ∙ map-range_with_len_more f 0 n n (omega arith)
    ∙ ap (λ (ks : List ℕ). ks ++ n ∷ []) (map-id (range_with_len 0 n))

-- one level more
pub flat_map_more : {A : Type 0} (f : ℕ → List A) (n : ℕ) → flat_map f (range_with_len 0 (n + 1))
    ≡ flat_map f (range_with_len 0 n) ++ f n
flat_map_more f n =
    ap (flat_map f) (range_more n) ∙ flat_map-append f (range_with_len 0 n) (n ∷ [])
    ∙ ap (λ (xs : List _). flat_map f (range_with_len 0 n) ++ xs) (append-nil (f n))

pub rows_more : (n rows width : ℕ) → n * rows * width + rows * width ≡ (n + 1) * rows * width
rows_more n rows width = grind arith

-- counters within a weight of at most 2^44 fit eight bytes
pub are_counters : (weight : ℕ) (counters : List ℤ) → weight ≤ 2 ^ 44 → AllUpTo weight counters
    → All (IsCounter weight) counters
are_counters weight counters light bound = λ k d within.
    let small : unsigned_abs (get_or counters k d) ≤ weight = bound.each k d within in
    record { light = small; fits = fits_signed_from_abs w64 (get_or counters k d) (omega arith) }

pub up_to_both : (weight : ℕ) (xs ys : List ℤ) → AllUpTo weight xs → AllUpTo weight ys → AllUpTo weight (xs ++ ys)
up_to_both weight xs ys first second =
    record { each = All-append (λ (value : ℤ). unsigned_abs value ≤ weight) xs ys first.each second.each }
