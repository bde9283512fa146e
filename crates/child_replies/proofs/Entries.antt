-- The entries of a row, from a place on.
use Rattle.std.proofs.Common.{◌≡◌, ◌≤◌, ◌<◌, ℕ, zero, suc, ◌+◌, ◌-◌, Bool, true, false, not, cond, List, [], ◌∷◌, ◌++◌, length, drop, slice_index_or, ℤ, pos, refl, sym, ◌∙◌, ap, arith, drop-cons, drop_of_length-le, append-nil, append_assoc, zero-add, flat_map}
use Rattle.std.specs.List.{range_with_len}
use Rattle.std.proofs.lemmas.List.Concat.{flat_map-append}
use Rattle.bound_certificate.proofs.Below.{range_with_len-more}
use Rattle.std.proofs.Math.Nat.{le_refl}
use Rattle.std.specs.Ordering.{int_eq}
use Rattle.byteorder.specs.Endian.{little_bytes}
use Rattle.lane_kernels.specs.Nonzero.{is_nonzero}
use Rattle.reply_format.specs.Reply.{counter_bytes, entries_bytes, row_at, row_bytes, sparse_bytes}

not_false : (b : Bool) → not b ≡ false → b ≡ true
not_false true is = refl
not_false false is = cc

not_true : (b : Bool) → not b ≡ true → b ≡ false
not_true true is = cc
not_true false is = refl

at_place : (row : List ℤ) (i : ℕ) → i < length row → drop i row ≡ slice_index_or row i (pos 0) ∷ drop (i + 1) row
at_place row i less =
    let next : suc i ≡ i + 1 = omega arith in
    drop-cons row i (pos 0) less ∙ ap (λ (n : ℕ). slice_index_or row i (pos 0) ∷ drop n row) next

entry_zero : (row : List ℤ) (i : ℕ) → i < length row → is_nonzero (slice_index_or row i (pos 0)) ≡ false
    → entries_bytes i (drop i row) ≡ entries_bytes (i + 1) (drop (i + 1) row)
unfolding entries_bytes
entry_zero row i less is =
    ap (λ (l : List ℤ). entries_bytes i l) (at_place row i less)
    ∙ ap (λ (b : Bool). cond b [] (little_bytes 2 i ++ counter_bytes (slice_index_or row i (pos 0)))
    ++ entries_bytes (i + 1) (drop (i + 1) row))
    (not_false (int_eq (slice_index_or row i (pos 0)) (pos 0)) is)

entry_some : (row : List ℤ) (i : ℕ) → i < length row → is_nonzero (slice_index_or row i (pos 0)) ≡ true
    → entries_bytes i (drop i row) ≡ (little_bytes 2 i ++ counter_bytes (slice_index_or row i (pos 0)))
    ++ entries_bytes (i + 1) (drop (i + 1) row)
unfolding entries_bytes
entry_some row i less is =
    ap (λ (l : List ℤ). entries_bytes i l) (at_place row i less)
    ∙ ap (λ (b : Bool). cond b [] (little_bytes 2 i ++ counter_bytes (slice_index_or row i (pos 0)))
    ++ entries_bytes (i + 1) (drop (i + 1) row))
    (not_true (int_eq (slice_index_or row i (pos 0)) (pos 0)) is)

entries_gap : (row : List ℤ) (gap from : ℕ) → from + gap ≤ length row
    → ((i : ℕ) → from ≤ i → i < from + gap → is_nonzero (slice_index_or row i (pos 0)) ≡ false)
    → entries_bytes from (drop from row) ≡ entries_bytes (from + gap) (drop (from + gap) row)
entries_gap row zero from within zeros =
    let same : from ≡ from + 0 = omega arith in
    ap (λ (n : ℕ). entries_bytes n (drop n row)) same
entries_gap row (suc gap) from within zeros =
    let same : from + 1 + gap ≡ from + suc gap = omega arith in
    entry_zero row from (omega (arith, within)) (zeros from (omega arith) (omega arith))
    ∙ entries_gap row gap (from + 1) (omega (arith, within))
    (λ i above below. zeros i (omega (arith, above)) (omega (arith, below)))
    ∙ ap (λ (n : ℕ). entries_bytes n (drop n row)) same

entries_until : (row : List ℤ) (from place : ℕ) → from ≤ place → place ≤ length row
    → ((i : ℕ) → from ≤ i → i < place → is_nonzero (slice_index_or row i (pos 0)) ≡ false)
    → entries_bytes from (drop from row) ≡ entries_bytes place (drop place row)
entries_until row from place above within zeros =
    let to : from + (place - from) ≡ place = omega (arith, above) in
    entries_gap row (place - from) from (omega (arith, to, within))
    (λ i at_least below. zeros i at_least (omega (arith, below, to)))
    ∙ ap (λ (n : ℕ). entries_bytes n (drop n row)) to

-- up to the next one that isn't 0, that one, and those behind it
pub entries_next : (row : List ℤ) (from place : ℕ) → from ≤ place → place < length row
    → is_nonzero (slice_index_or row place (pos 0)) ≡ true
    → ((i : ℕ) → from ≤ i → i < place → is_nonzero (slice_index_or row i (pos 0)) ≡ false)
    → entries_bytes from (drop from row) ≡ (little_bytes 2 place ++ counter_bytes (slice_index_or row place (pos 0)))
    ++ entries_bytes (place + 1) (drop (place + 1) row)
entries_next row from place above below is zeros =
    entries_until row from place above (omega (arith, below)) zeros ∙ entry_some row place below is

nothing : (bucket : ℕ) (row : List ℤ) → row ≡ [] → entries_bytes bucket row ≡ []
unfolding entries_bytes
nothing bucket row is = ap (λ (l : List ℤ). entries_bytes bucket l) is

-- and none where all are 0
pub entries_none : (row : List ℤ) (from : ℕ) → from ≤ length row
    → ((i : ℕ) → from ≤ i → i < length row → is_nonzero (slice_index_or row i (pos 0)) ≡ false)
    → entries_bytes from (drop from row) ≡ []
entries_none row from within zeros =
    entries_until row from (length row) within (omega arith) zeros
    ∙ nothing (length row) (drop (length row) row) (drop_of_length-le row (le_refl (length row)))

-- a row more
pub sparse_more : (rows width : ℕ) (counters : List ℤ)
    → sparse_bytes (rows + 1) width counters ≡ sparse_bytes rows width counters
    ++ row_bytes (row_at width counters rows)
unfolding sparse_bytes
sparse_more rows width counters =
    ap (λ (l : List ℕ). flat_map (λ row. row_bytes (row_at width counters row)) l) (range_with_len-more 0 rows)
    ∙ flat_map-append (λ row. row_bytes (row_at width counters row)) (range_with_len 0 rows) ((0 + rows) ∷ [])
    ∙ ap (λ (l : List ℕ). sparse_bytes rows width counters ++ l)
    (append-nil (row_bytes (row_at width counters (0 + rows))))
    ∙ ap (λ (n : ℕ). sparse_bytes rows width counters ++ row_bytes (row_at width counters n)) (zero-add rows)

pub sparse_none : (width : ℕ) (counters : List ℤ) → sparse_bytes 0 width counters ≡ []
unfolding sparse_bytes
sparse_none width counters = refl

-- what is written, with what is left
pub entries_step : (start out more : List ℕ) (row : List ℤ) (from place : ℕ) → more ≡ out
    ++ (little_bytes 2 place ++ counter_bytes (slice_index_or row place (pos 0)))
    → from ≤ place → place < length row → is_nonzero (slice_index_or row place (pos 0)) ≡ true
    → ((i : ℕ) → from ≤ i → i < place → is_nonzero (slice_index_or row i (pos 0)) ≡ false)
    → out ++ entries_bytes from (drop from row) ≡ start
    → more ++ entries_bytes (place + 1) (drop (place + 1) row) ≡ start
entries_step start out more row from place put above below is zeros so_far =
    let entry : List ℕ = little_bytes 2 place ++ counter_bytes (slice_index_or row place (pos 0)) in
    let left : List ℕ = entries_bytes (place + 1) (drop (place + 1) row) in
    ap (λ (l : List ℕ). l ++ left) put
    ∙ append_assoc out entry left
    ∙ ap (λ (l : List ℕ). out ++ l) (sym (entries_next row from place above below is zeros))
    ∙ so_far

pub entries_end : (start out : List ℕ) (row : List ℤ) (from : ℕ) → from ≤ length row
    → ((i : ℕ) → from ≤ i → i < length row → is_nonzero (slice_index_or row i (pos 0)) ≡ false)
    → out ++ entries_bytes from (drop from row) ≡ start → out ≡ start
entries_end start out row from within zeros so_far =
    sym (append-nil out) ∙ ap (λ (l : List ℕ). out ++ l) (sym (entries_none row from within zeros)) ∙ so_far
