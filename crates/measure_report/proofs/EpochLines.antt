-- The lines of an epoch, of its sketch and of the one before.
use Rattle.std.proofs.Common.{◌≡◌, ℕ, zero, suc, ◌-◌, ◌<◌, ◌==◌, Bool, false, if◌then◌else◌, List, [], ◌++◌, length, slice_index_or, sym, ◌∙◌, ap, arith, append-nil}
use Rattle.std.proofs.lemmas.Bool.Decides.{nat_tests}
use Rattle.std.proofs.lemmas.List.{get_or_default}
use Rattle.sketch_merge.specs.Merged.{View}
use Rattle.change_report.specs.Form.{Form, change_block, epoch_block}
use Rattle.measure_report.specs.Report.{epoch_text}
use Rattle.measure_report.specs.Run.{view_in}

-- the sketch of an epoch
view_at : (views : List View) (epoch : ℕ) (view other : View) → epoch < length views
    → view ≡ slice_index_or views epoch view → view ≡ view_in views other epoch
view_at views epoch view other within is = is ∙ get_or_default views epoch view other within

-- the lines of the first epoch
pub first_lines : (form : Form) (seed heavy : ℕ) (packets : ℕ → ℕ) (views : List View) (epoch : ℕ) (view other : View)
    (lines : List ℕ) → epoch ≡ 0 → epoch < length views → view ≡ slice_index_or views epoch view
    → lines ≡ epoch_block form seed heavy epoch (packets epoch) view
    → lines ≡ epoch_text form seed heavy packets (view_in views other) epoch
unfolding epoch_text
first_lines form seed heavy packets views zero view other lines first within is block =
    block
    ∙ ap (epoch_block form seed heavy 0 (packets 0)) (view_at views 0 view other within is)
    ∙ sym (append-nil (epoch_block form seed heavy 0 (packets 0) (view_in views other 0)))
first_lines form seed heavy packets views (suc before) view other lines first within is block =
    absurd (omega (arith, first))

-- a later epoch is not the first
is_later : (epoch : ℕ) → 0 < epoch → (epoch == 0) ≡ false
is_later epoch later = grind (arith, nat_tests)

-- the lines of a later epoch
pub later_lines : (form : Form) (seed heavy : ℕ) (packets : ℕ → ℕ) (view : ℕ → View) (epoch : ℕ) → 0 < epoch
    → epoch_text form seed heavy packets view epoch
    ≡ epoch_block form seed heavy epoch (packets epoch) (view epoch)
    ++ change_block form seed heavy epoch (view (epoch - 1)) (view epoch)
unfolding epoch_text
later_lines form seed heavy packets view epoch later =
    ap (λ (first : Bool). epoch_block form seed heavy epoch (packets epoch) (view epoch)
    ++ (if first then [] else change_block form seed heavy epoch (view (epoch - 1)) (view epoch)))
    (is_later epoch later)

-- the same by its sketch and the one before
pub lines_of_two : (form : Form) (seed heavy : ℕ) (packets : ℕ → ℕ) (views : List View) (epoch : ℕ)
    (before view other : View) (lines more text : List ℕ) → 0 < epoch → epoch < length views
    → before ≡ slice_index_or views (epoch - 1) before → view ≡ slice_index_or views epoch view
    → lines ≡ epoch_block form seed heavy epoch (packets epoch) view
    → more ≡ change_block form seed heavy epoch before view → text ≡ lines ++ more
    → text ≡ epoch_text form seed heavy packets (view_in views other) epoch
lines_of_two form seed heavy packets views epoch before view other lines more text later within was is block change
    whole =
    let earlier = view_at views (epoch - 1) before other (omega (arith, within)) was in
    let now = view_at views epoch view other within is in
    whole
    ∙ (λ i. block i ++ change i)
    ∙ (λ i. epoch_block form seed heavy epoch (packets epoch) (now i)
    ++ change_block form seed heavy epoch (earlier i) (now i))
    ∙ sym (later_lines form seed heavy packets (view_in views other) epoch later)

-- the lines of an epoch by those of its block and of its change
pub lines_by_blocks : (form : Form) (seed heavy : ℕ) (packets others : ℕ → ℕ) (view other : ℕ → View) (epoch : ℕ)
    → epoch_block form seed heavy epoch (packets epoch) (view epoch)
    ≡ epoch_block form seed heavy epoch (others epoch) (other epoch)
    → (0 < epoch → change_block form seed heavy epoch (view (epoch - 1)) (view epoch)
    ≡ change_block form seed heavy epoch (other (epoch - 1)) (other epoch))
    → epoch_text form seed heavy packets view epoch ≡ epoch_text form seed heavy others other epoch
unfolding epoch_text
lines_by_blocks form seed heavy packets others view other zero block change = λ i. block i ++ []
lines_by_blocks form seed heavy packets others view other (suc n) block change =
    let later : 0 < suc n = omega arith in
    later_lines form seed heavy packets view (suc n) later
    ∙ (λ i. block i ++ change later i)
    ∙ sym (later_lines form seed heavy others other (suc n) later)

-- the lines of an epoch are those of the same packets and sketches
pub same_lines : (form : Form) (seed heavy epochs : ℕ) (packets others : ℕ → ℕ) (view other : ℕ → View) (epoch : ℕ)
    → ((k : ℕ) → k < epochs → packets k ≡ others k) → ((k : ℕ) → k < epochs → view k ≡ other k) → epoch < epochs
    → epoch_text form seed heavy packets view epoch ≡ epoch_text form seed heavy others other epoch
same_lines form seed heavy epochs packets others view other epoch counts views within =
    lines_by_blocks form seed heavy packets others view other epoch
    (λ i. epoch_block form seed heavy epoch (counts epoch within i) (views epoch within i))
    (λ later. (λ i. change_block form seed heavy epoch (views (epoch - 1) (omega (arith, within)) i)
    (views epoch within i)))
