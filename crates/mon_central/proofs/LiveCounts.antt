-- The counts of the levels, while a packet is counted.
use Rattle.std.proofs.Common.{◌≡◌, ◌≢◌, ℕ, ◌+◌, ◌<◌, ◌≤◌, Bool, cond, List, length, slice_index, set, sym, ◌∙◌, ap, subst, arith, inl, inr, length-set, get_or-set_other, get_or-set_same}
use Rattle.std.proofs.lemmas.Bool.{cases_lt}
use Rattle.spot_table.specs.Live.{IsLiveAt}
use Rattle.mon_central.specs.Live.{CountsLive}

-- the levels below this one have counted
pub record HasCounted (more : ℕ) (old now : List ℕ) (level : ℕ) : Type 0 where
  pub size : length now ≡ length old
  pub counted : (k : ℕ) → k < level → slice_index now k ≡ slice_index old k + more
  pub rest : (k : ℕ) → level ≤ k → slice_index now k ≡ slice_index old k

-- those where a key is live, or all
pub all_counted : (seed top : ℕ) (key : List ℕ) (levels more : ℕ) (old now : List ℕ) (level : ℕ)
    → HasCounted more old now level → length old ≡ top + 1 → level ≤ levels → (level < levels → level ≡ length old)
    → IsLiveAt seed top key levels → CountsLive seed key more old now
all_counted seed top key levels more old now level counting size under all is = record {
  size = counting.size;
  each = λ k within. elim (cases_lt k level) [
    | inl below ↦ counting.counted k below ∙ ap (λ (b : Bool). slice_index old k + cond {A = ℕ} b more 0) (sym
        (is.live k (omega (arith, below, under))))
    | inr above ↦ elim (cases_lt level levels) [
      | inl short ↦ absurd (omega (arith, all short, above, within))
      | inr whole ↦ omega (
        arith,
        counting.rest k above,
        ap (λ (b : Bool). cond {A = ℕ} b more 0)
            (is.dead k (omega (arith, above, whole)) (omega (arith, within, size))),
      )
    ]
  ];
}

-- one more level
pub one_more : (more : ℕ) (old now : List ℕ) (level : ℕ) → HasCounted more old now level → level < length now
    → HasCounted more old (set now level (slice_index now level + more)) (level + 1)
one_more more old now level counting within = record {
  size = length-set now level (slice_index now level + more) ∙ counting.size;
  counted = λ k below. elim (cases_lt k level) [
    | inl lesser ↦ let other : k ≢ level = omega arith in get_or-set_other now level k (slice_index now level + more) 0
        other ∙ counting.counted k lesser
    | inr same ↦
        let is : level ≡ k = omega arith in
        subst (λ (n : ℕ). slice_index (set now level (slice_index now level + more)) n ≡ slice_index old n + more) is
        (get_or-set_same now level (slice_index now level + more) 0 within
        ∙ ap (λ (n : ℕ). n + more) (counting.rest level (omega arith)))
  ];
  rest = λ k above. let other : k ≢ level = omega arith in get_or-set_other now level k (slice_index now level + more) 0
      other ∙ counting.rest k (omega arith);
}
