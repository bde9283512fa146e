-- Two lists joined by a function of two numbers, the first places done and the rest left.
use Rattle.std.proofs.Common.{◌≡◌, ℕ, ◌+◌, ◌-◌, ◌≤◌, ◌<◌, List, [], ◌++◌, length}
use Rattle.std.proofs.Common.{get_or, set, take, drop, ℤ, pos, refl, sym, ◌∙◌, ap, subst, arith, unsigned_abs}
use Rattle.std.proofs.Common.{length-set, length-append, length-drop, inl, inr}
use Rattle.std.specs.Simd.Lanes.{zip2, chunk, put_chunk}
use Rattle.std.proofs.lemmas.Bool.{cases_lt, cases_eq}
use Rattle.std.proofs.lemmas.List.{ext_get_or, get_or-set_same, get_or-set_other, get_or-take, get_or-drop}
use Rattle.std.proofs.lemmas.List.{length-take-le, take_rest, drop_all, append-nil}
use Rattle.std.proofs.lemmas.List.{get_or_append_left, get_or-append-add}
use Rattle.std.proofs.Math.ListN.{get_or-eq_default}
use Rattle.std.proofs.lemmas.List.Elements.{All-get_or, All-from_get_or}
use Rattle.lane_kernels.specs.Sums.{AllUpTo}
use Rattle.std.proofs.lemmas.Simd.{get_or-zip2, length-zip2, length-chunk, get_or-chunk, length-put_chunk}
use Rattle.std.proofs.lemmas.Simd.{get_or-put_chunk_below, get_or-put_chunk_at, get_or-put_chunk_above}

-- the first n places have f of both lists, and the others are as they were
pub record Joined (f : ℤ → ℤ → ℤ) (old others now : List ℤ) (n : ℕ) : Type 0 where
  pub size : length now ≡ length old
  pub done : (k : ℕ) → k < n → get_or now k (pos 0) ≡ f (get_or old k (pos 0)) (get_or others k (pos 0))
  pub rest : (k : ℕ) → n ≤ k → get_or now k (pos 0) ≡ get_or old k (pos 0)

pub joined_none : (f : ℤ → ℤ → ℤ) (old others : List ℤ) → Joined f old others old 0
joined_none f old others =
    record { size = refl; done = λ k below. absurd (omega (arith, below)); rest = λ k above. refl }

pub joined_more : (f : ℤ → ℤ → ℤ) (old others now : List ℤ) (n : ℕ) → n < length old → Joined f old others now n
    → Joined f old others (set now n (f (get_or now n (pos 0)) (get_or others n (pos 0)))) (n + 1)
joined_more f old others now n within before = record {
  size = length-set now n _ ∙ before.size;
  done = λ k below. elim (cases_eq k n) [
    | inl same ↦
        ap (λ (j : ℕ). get_or (set now n (f (get_or now n (pos 0)) (get_or others n (pos 0)))) j (pos 0)) same
        ∙ get_or-set_same now n _ (pos 0) (omega (arith, before.size))
        ∙ ap (λ (x : ℤ). f x (get_or others n (pos 0))) (before.rest n (omega arith))
        ∙ ap (λ (j : ℕ). f (get_or old j (pos 0)) (get_or others j (pos 0))) (sym same)
    | inr apart ↦ get_or-set_other now n k _ (pos 0) apart ∙ before.done k (omega arith)
  ];
  rest = λ k above. get_or-set_other now n k _ (pos 0) (λ same. absurd (omega arith)) ∙ before.rest k (omega arith);
}

pub joined_all : (f : ℤ → ℤ → ℤ) (old others now : List ℤ) → length old ≡ length others
    → Joined f old others now (length old) → now ≡ zip2 f old others
joined_all f old others now shape all =
    let zipped = length-zip2 f old others shape in
    ext_get_or (pos 0) now (zip2 f old others) (omega (arith, all.size, zipped)) (λ k below.
    all.done k (omega (arith, all.size))
    ∙ sym (get_or-zip2 f old others k (pos 0) (pos 0) (pos 0) (omega (arith, all.size)) (omega (arith, all.size))))

-- ---- m places at a time

module _ (f : ℤ → ℤ → ℤ) (old others now : List ℤ) (n m : ℕ) (shape : length old ≡ length others)
    (room : n + m ≤ length old) (before : Joined f old others now n) where
  size_before : length now ≡ length old
  size_before = before.size

  both : List ℤ
  both = zip2 f (chunk n m now) (chunk n m others)

  length-both : length both ≡ m
  unfolding both
  length-both =
      let here = length-chunk n m now (omega arith) in
      let there = length-chunk n m others (omega arith) in
      length-zip2 f (chunk n m now) (chunk n m others) (omega (arith, here, there)) ∙ here

  get_or-both : (j : ℕ) → j < m → get_or both j (pos 0) ≡ f (get_or old (n + j) (pos 0)) (get_or others (n + j) (pos 0))
  unfolding both
  get_or-both j below =
      let here = length-chunk n m now (omega arith) in
      let there = length-chunk n m others (omega arith) in
      get_or-zip2 f (chunk n m now) (chunk n m others) j (pos 0) (pos 0) (pos 0) (omega (arith, here))
      (omega (arith, there))
      ∙ ap (λ (x : ℤ). f x (get_or (chunk n m others) j (pos 0)))
      (get_or-chunk n m now j (pos 0) below ∙ before.rest (n + j) (omega arith))
      ∙ ap (λ (y : ℤ). f (get_or old (n + j) (pos 0)) y) (get_or-chunk n m others j (pos 0) below)

  done_there : (k : ℕ) → n ≤ k → k < n + m
      → get_or (put_chunk n now both) k (pos 0) ≡ f (get_or old k (pos 0)) (get_or others k (pos 0))
  done_there k above below =
      let j = k - n in
      let e : n + j ≡ k = omega arith in
      ap (λ (i : ℕ). get_or (put_chunk n now both) i (pos 0)) (sym e)
      ∙ get_or-put_chunk_at n now both j (pos 0) (omega (arith, length-both)) (omega (arith, length-both, size_before))
      ∙ get_or-both j (omega arith)
      ∙ ap (λ (i : ℕ). f (get_or old i (pos 0)) (get_or others i (pos 0))) e

  joined_lanes : Joined f old others (put_chunk n now both) (n + m)
  joined_lanes = record {
    size = length-put_chunk n now both ∙ before.size;
    done = λ k below. elim (cases_lt k n) [
      | inl earlier ↦ get_or-put_chunk_below n now both k (pos 0) earlier ∙ before.done k earlier
      | inr above ↦ done_there k above below
    ];
    rest = λ k above. get_or-put_chunk_above n now both k (pos 0) (omega (arith, length-both))
        ∙ before.rest k (omega arith);
  }

-- m places more
pub joined_chunk : (f : ℤ → ℤ → ℤ) (old others now : List ℤ) (n m : ℕ) → length old ≡ length others
    → n + m ≤ length old → Joined f old others now n
    → (next : List ℤ) → next ≡ put_chunk n now (zip2 f (chunk n m now) (chunk n m others))
    → Joined f old others next (n + m)
unfolding both
joined_chunk f old others now n m shape room before next is =
    subst (λ (xs : List ℤ). Joined f old others xs (n + m)) (sym is)
    (joined_lanes f old others now n m shape room before)

module _ (f : ℤ → ℤ → ℤ) (old others now : List ℤ) (n : ℕ) (shape : length old ≡ length others)
    (within : n ≤ length old) (before : Joined f old others now n) where
  whole : List ℤ
  whole = take n now ++ zip2 f (drop n now) (drop n others)

  size_now : length now ≡ length old
  size_now = before.size

  size_ends : length (zip2 f (drop n now) (drop n others)) ≡ length old - n
  size_ends =
      length-zip2 f (drop n now) (drop n others) (omega (arith, length-drop n now, length-drop n others, size_now))
      ∙ length-drop n now ∙ ap (λ (l : ℕ). l - n) size_now

  size_front : length (take n now) ≡ n
  size_front = length-take-le n now (omega (arith, size_now))

  size_whole : length whole ≡ length old
  unfolding whole
  size_whole = omega (arith, length-append (take n now) (zip2 f (drop n now) (drop n others)), size_front, size_ends)

  front_there : (k : ℕ) → k < n → get_or whole k (pos 0) ≡ f (get_or old k (pos 0)) (get_or others k (pos 0))
  unfolding whole
  front_there k below =
      get_or_append_left (take n now) (zip2 f (drop n now) (drop n others)) (pos 0) k (omega (arith, size_front))
      ∙ get_or-take n now k (pos 0) below ∙ before.done k below

  end_there : (j : ℕ) → n + j < length old
      → get_or whole (n + j) (pos 0) ≡ f (get_or old (n + j) (pos 0)) (get_or others (n + j) (pos 0))
  unfolding whole
  end_there j below =
      ap (λ (k : ℕ). get_or whole (k + j) (pos 0)) (sym size_front)
      ∙ get_or-append-add (take n now) (zip2 f (drop n now) (drop n others)) j (pos 0)
      ∙ get_or-zip2 f (drop n now) (drop n others) j (pos 0) (pos 0) (pos 0)
      (omega (arith, length-drop n now, size_now)) (omega (arith, length-drop n others))
      ∙ ap (λ (x : ℤ). f x (get_or (drop n others) j (pos 0)))
      (get_or-drop n now j (pos 0) ∙ before.rest (n + j) (omega arith))
      ∙ ap (f (get_or old (n + j) (pos 0))) (get_or-drop n others j (pos 0))

  joined_ends : whole ≡ zip2 f old others
  joined_ends = joined_all f old others whole shape (record {
    size = size_whole;
    done = λ k below. elim (cases_lt k n) [
      | inl earlier ↦ front_there k earlier
      | inr above ↦
          let e : n + (k - n) ≡ k = omega arith in
          subst (λ (i : ℕ). get_or whole i (pos 0) ≡ f (get_or old i (pos 0)) (get_or others i (pos 0))) e
          (end_there (k - n) (omega arith))
    ];
    rest = λ k above. get_or-eq_default whole (pos 0) (omega (arith, size_whole))
        ∙ sym (get_or-eq_default old (pos 0) above);
  })

-- where the first n places are done, the rest joined by itself ends the whole
pub joined_rest : (f : ℤ → ℤ → ℤ) (old others now rest : List ℤ) (n : ℕ) → length old ≡ length others
    → n ≤ length old → Joined f old others now n
    → rest ≡ zip2 f (take (length now - n) (drop n now)) (take (length others - n) (drop n others))
    → take n now ++ (rest ++ drop (length now - n) (drop n now)) ≡ zip2 f old others
unfolding whole
joined_rest f old others now rest n shape within before is =
    let size = before.size in
    let cut : drop (length now - n) (drop n now) ≡ [] =
    drop_all (length now - n) (drop n now) (omega (arith, length-drop n now)) in
    let rest_is : rest ≡ zip2 f (drop n now) (drop n others) =
    is ∙ ap (λ (xs : List ℤ). zip2 f xs (take (length others - n) (drop n others))) (take_rest now n)
    ∙ ap (zip2 f (drop n now)) (take_rest others n) in
    ap (λ (xs : List ℤ). take n now ++ (rest ++ xs)) cut
    ∙ ap (λ (xs : List ℤ). take n now ++ xs) (append-nil rest ∙ rest_is)
    ∙ joined_ends f old others now n shape within before

-- what is not done yet has the numbers of the first list
pub rest_small : (f : ℤ → ℤ → ℤ) (old others now : List ℤ) (n m : ℕ) → Joined f old others now n → AllUpTo m old
    → AllUpTo m (drop n now)
rest_small f old others now n m before small =
    All-from_get_or (λ x. unsigned_abs x ≤ m) (drop n now) (pos 0) (λ k below.
    let there : n + k < length old = omega (arith, length-drop n now, before.size) in
    let same : get_or (drop n now) k (pos 0) ≡ get_or old (n + k) (pos 0) =
    get_or-drop n now k (pos 0) ∙ before.rest (n + k) (omega arith) in
    subst (λ (x : ℤ). unsigned_abs x ≤ m) (sym same)
    (All-get_or (λ x. unsigned_abs x ≤ m) old (n + k) (pos 0) there small))
