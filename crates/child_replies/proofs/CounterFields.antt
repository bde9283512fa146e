-- The fields of the counters.
use Rattle.std.proofs.Common.{◌≡◌, ◌≤◌, ◌<◌, ◌&&◌, ℕ, ◌+◌, ◌-◌, Bool, true, false, nat_le, nat_lt, List, [], ◌∷◌, ◌++◌, length, ℤ, refl, sym, ◌∙◌, ap, subst, le-leb, lt-ltb}
use Rattle.std.proofs.lemmas.Bool.{lt-leb, le-ltb}
use Rattle.std.proofs.Math.Bool.{and-false}
use Rattle.byteorder.specs.Endian.{little_number, twos_complement}
use Rattle.child_replies.specs.Steps.{Moves, Stops}
use Rattle.child_replies.proofs.Moves.{tested_on, tested_stop}
use Rattle.reply_format.specs.Places.{Bucket, Counter, RowCount, Value, behind_counter, behind_value, judge_place, magnitude, signed, zeros}
use Rattle.reply_format.specs.Reply.{ReplayHead}
use Rattle.reply_format.specs.declared.fault.ReplyFault.TheVariants.{CounterPlace, CounterRange}

module _ (e : ReplayHead) (counters : List ℤ) (field after bytes : List ℕ) (parts : bytes ≡ field ++ after) where
  module _ (whole : length field ≡ 8) (number : ℕ) (is : number ≡ little_number 8 field) where
    light : magnitude number ≤ e.weight → nat_le (magnitude (little_number 8 field)) e.weight ≡ true
    light less = le-leb (magnitude (little_number 8 field)) e.weight (subst (λ (n : ℕ). magnitude n ≤ e.weight) is less)

    heavy : e.weight < magnitude number → nat_le (magnitude (little_number 8 field)) e.weight ≡ false
    heavy more = lt-leb (magnitude (little_number 8 field)) e.weight (subst (λ (n : ℕ). e.weight < magnitude n) is more)

    value_of : (value : ℤ) → value ≡ twos_complement 8 number → value ≡ signed field
    value_of value same = same ∙ ap (λ (n : ℕ). twos_complement 8 n) is

    pub counter_on : (value : ℤ) → value ≡ twos_complement 8 number → magnitude number ≤ e.weight
        → Moves e (Counter counters) bytes (behind_counter e (counters ++ value ∷ [])) after
    unfolding judge_place
    counter_on value same less =
        subst (λ (z : ℤ). Moves e (Counter counters) bytes (behind_counter e (counters ++ z ∷ [])) after)
        (sym (value_of value same))
        (tested_on e (Counter counters) (behind_counter e (counters ++ signed field ∷ [])) field after bytes
        (nat_le (magnitude (little_number 8 field)) e.weight) CounterRange parts whole refl (light less))

    pub counter_stop : e.weight < magnitude number → Stops e (Counter counters) bytes CounterRange
    unfolding judge_place
    counter_stop more =
        tested_stop e (Counter counters) (behind_counter e (counters ++ signed field ∷ [])) field after bytes
        (nat_le (magnitude (little_number 8 field)) e.weight) CounterRange parts whole refl (heavy more)

    module _ (from left : ℕ) where
      pub value_on : (value : ℤ) → value ≡ twos_complement 8 number → 0 < number → magnitude number ≤ e.weight
          → Moves e (Value counters from left) bytes (behind_value e (counters ++ value ∷ []) from left) after
      unfolding judge_place
      value_on value same some less =
          let above : nat_lt 0 (little_number 8 field)
          ≡ true = lt-ltb 0 (little_number 8 field) (subst (λ (n : ℕ). 0 < n) is some) in
          subst (λ (z : ℤ). Moves e (Value counters from left) bytes
          (behind_value e (counters ++ z ∷ []) from left) after) (sym (value_of value same))
          (tested_on e (Value counters from left)
          (behind_value e (counters ++ signed field ∷ []) from left) field after bytes
          (nat_lt 0 (little_number 8 field) && nat_le (magnitude (little_number 8 field)) e.weight) CounterRange parts
          whole refl
          (ap (λ (b : Bool). b && nat_le (magnitude (little_number 8 field)) e.weight) above ∙ light less))

      value_wrong : (nat_lt 0 (little_number 8 field) && nat_le (magnitude (little_number 8 field)) e.weight) ≡ false
          → Stops e (Value counters from left) bytes CounterRange
      unfolding judge_place
      value_wrong wrong =
          tested_stop e (Value counters from left)
          (behind_value e (counters ++ signed field ∷ []) from left) field after bytes
          (nat_lt 0 (little_number 8 field) && nat_le (magnitude (little_number 8 field)) e.weight) CounterRange parts
          whole refl wrong

      pub value_zero : number ≡ 0 → Stops e (Value counters from left) bytes CounterRange
      value_zero none =
          value_wrong (ap (λ (n : ℕ). nat_lt 0 n && nat_le (magnitude (little_number 8 field)) e.weight)
          (sym is ∙ none))

      pub value_heavy : e.weight < magnitude number → Stops e (Value counters from left) bytes CounterRange
      value_heavy more =
          value_wrong (ap (λ (b : Bool). nat_lt 0 (little_number 8 field) && b) (heavy more)
          ∙ and-false (nat_lt 0 (little_number 8 field)))

  module _ (whole : length field ≡ 2) (number : ℕ) (is : number ≡ little_number 2 field) where
    pub row_count_on : number ≤ e.setting.width
        → Moves e (RowCount counters) bytes (behind_value e counters 0 number) after
    unfolding judge_place
    row_count_on few =
        subst (λ (n : ℕ). Moves e (RowCount counters) bytes (behind_value e counters 0 n) after) (sym is)
        (tested_on e (RowCount counters) (behind_value e counters 0 (little_number 2 field)) field after bytes
        (nat_le (little_number 2 field) e.setting.width) CounterPlace parts whole refl
        (le-leb (little_number 2 field) e.setting.width (subst (λ (n : ℕ). n ≤ e.setting.width) is few)))

    pub row_count_stop : e.setting.width < number → Stops e (RowCount counters) bytes CounterPlace
    unfolding judge_place
    row_count_stop many =
        tested_stop e (RowCount counters) (behind_value e counters 0 (little_number 2 field)) field after bytes
        (nat_le (little_number 2 field) e.setting.width) CounterPlace parts whole refl
        (lt-leb (little_number 2 field) e.setting.width (subst (λ (n : ℕ). e.setting.width < n) is many))

    module _ (from left : ℕ) where
      pub bucket_on : from ≤ number → number < e.setting.width
          → Moves e (Bucket counters from left) bytes
          (Value (counters ++ zeros (number - from)) (number + 1) (left - 1)) after
      unfolding judge_place
      bucket_on above below =
          let n = little_number 2 field in
          let first : nat_le from n ≡ true = le-leb from n (subst (λ (m : ℕ). from ≤ m) is above) in
          let second : nat_lt n e.setting.width ≡ true = lt-ltb n e.setting.width
          (subst (λ (m : ℕ). m < e.setting.width) is below) in
          subst (λ (m : ℕ). Moves e (Bucket counters from left) bytes
          (Value (counters ++ zeros (m - from)) (m + 1) (left - 1)) after) (sym is)
          (tested_on e (Bucket counters from left)
          (Value (counters ++ zeros (n - from)) (n + 1) (left - 1)) field after bytes
          (nat_le from n && nat_lt n e.setting.width) CounterPlace parts whole refl
          (ap (λ (b : Bool). b && nat_lt n e.setting.width) first ∙ second))

      bucket_wrong : (nat_le from (little_number 2 field) && nat_lt (little_number 2 field) e.setting.width) ≡ false
          → Stops e (Bucket counters from left) bytes CounterPlace
      unfolding judge_place
      bucket_wrong wrong =
          let n = little_number 2 field in
          tested_stop e (Bucket counters from left)
          (Value (counters ++ zeros (n - from)) (n + 1) (left - 1)) field after bytes
          (nat_le from n && nat_lt n e.setting.width) CounterPlace parts whole refl wrong

      pub bucket_low : number < from → Stops e (Bucket counters from left) bytes CounterPlace
      bucket_low low =
          bucket_wrong (ap (λ (b : Bool). b && nat_lt (little_number 2 field) e.setting.width)
          (lt-leb from (little_number 2 field) (subst (λ (m : ℕ). m < from) is low)))

      pub bucket_high : e.setting.width ≤ number → Stops e (Bucket counters from left) bytes CounterPlace
      bucket_high high =
          bucket_wrong (ap (λ (b : Bool). nat_le from (little_number 2 field) && b)
          (le-ltb (little_number 2 field) e.setting.width (subst (λ (m : ℕ). e.setting.width ≤ m) is high))
          ∙ and-false (nat_le from (little_number 2 field)))
