-- Where the counters go on, and where they end.
use Rattle.std.proofs.Common.{◌≡◌, ◌<◌, ℕ, ◌-◌, Bool, List, [], ◌++◌, length, ℤ, ap, eq-eqb, ne_eqb, arith, if◌then◌else◌}
use Rattle.reply_format.specs.Places.{Bucket, Counter, HeapLength, RowCount, behind_counter, behind_row, behind_value, zeros}
use Rattle.reply_format.specs.Reply.{ReplayHead, counter_count}

module _ (e : ReplayHead) (counters : List ℤ) where
  pub counter_more : length counters < counter_count e.setting → behind_counter e counters ≡ Counter counters
  counter_more less =
      ap (λ (b : Bool). if b then HeapLength counters [] else Counter counters)
      (ne_eqb (length counters) (counter_count e.setting) (λ same. omega (arith, less, same)))

  pub counter_last : length counters ≡ counter_count e.setting → behind_counter e counters ≡ HeapLength counters []
  counter_last all =
      ap (λ (b : Bool). if b then HeapLength counters [] else Counter counters)
      (eq-eqb (length counters) (counter_count e.setting) all)

  pub row_more : length counters < counter_count e.setting → behind_row e counters ≡ RowCount counters
  row_more less =
      ap (λ (b : Bool). if b then HeapLength counters [] else RowCount counters)
      (ne_eqb (length counters) (counter_count e.setting) (λ same. omega (arith, less, same)))

  pub row_last : length counters ≡ counter_count e.setting → behind_row e counters ≡ HeapLength counters []
  row_last all =
      ap (λ (b : Bool). if b then HeapLength counters [] else RowCount counters)
      (eq-eqb (length counters) (counter_count e.setting) all)

  pub value_more : (from left : ℕ) → 0 < left → behind_value e counters from left ≡ Bucket counters from left
  value_more from left some =
      ap (λ (b : Bool). if b then behind_row e
      (counters ++ zeros (e.setting.width - from)) else Bucket counters from left)
      (ne_eqb left 0 (λ same. omega (arith, some, same)))

  pub value_last : (from left : ℕ) → left ≡ 0
      → behind_value e counters from left ≡ behind_row e (counters ++ zeros (e.setting.width - from))
  value_last from left none =
      ap (λ (b : Bool). if b then behind_row e
      (counters ++ zeros (e.setting.width - from)) else Bucket counters from left) (eq-eqb left 0 none)
