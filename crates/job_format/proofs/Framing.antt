-- How items are cut into frames: in one way.
use Rattle.std.proofs.Common.{◌≡◌, ◌≤◌, ℕ, zero, suc, List, [], ◌∷◌, ◌++◌, length, take, drop, refl, sym, ◌∙◌, ap, arith, append-nil, length-append, inl, inr}
use Rattle.std.specs.List.{AllByRecursion}
use Rattle.std.proofs.lemmas.Bool.{cases_lt}
use Rattle.std.proofs.lemmas.List.{length-drop, length-take-le, take-append-drop}
use Rattle.job_format.specs.Job.{AreFrames, AreFull, IsFrame, frame_limit}
use Rattle.job_format.specs.declared.item.Item.{Item}
use Rattle.job_format.proofs.Frames.{all_of}

-- a full frame in front
full_front : (frame : List Item) (frames : List (List Item)) → length frame ≡ frame_limit → AreFull frames
    → AreFull (frame ∷ frames)
full_front frame [] size full = tt
full_front frame (next ∷ frames) size full = (size, full)

cut : (most : ℕ) (items : List Item) → length items ≤ most → (frames : List (List Item)) × AreFrames frames items
cut most [] few = ([], record { all = refl; each = tt; full = tt })
cut zero (item ∷ items) few = absurd (omega (arith, few))
cut (suc most) (item ∷ items) few = elim (cases_lt frame_limit (length (item ∷ items))) [
  | inl more ↦
      let whole : List Item = item ∷ items in
      let front : List Item = take frame_limit whole in
      let back : List Item = drop frame_limit whole in
      let size : length front ≡ frame_limit = length-take-le frame_limit whole (omega (arith, more)) in
      let rest : (frames : List (List Item)) × AreFrames frames back =
      cut most back (omega (arith, few, length-drop frame_limit whole)) in (
        front ∷ rest.0,
        record {
          all = ap (λ (l : List Item). front ++ l) rest.1.all ∙ take-append-drop frame_limit whole;
          each = ((omega (arith, size), omega (arith, size)), rest.1.each);
          full = full_front front rest.0 size rest.1.full;
        },
      )
  | inr few ↦ (
    (item ∷ items) ∷ [],
    record {
      all = append-nil (item ∷ items);
      each = ((omega arith, few), tt);
      full = tt;
    },
  )
]

-- items have frames
pub frames_some : (items : List Item) → (frames : List (List Item)) × AreFrames frames items
frames_some items = cut (length items) items (omega arith)

-- two lists with fronts of one length
same_front : {X : Type 0} (a b c d : List X) → length a ≡ length c → a ++ b ≡ c ++ d → (a ≡ c) × (b ≡ d)
same_front [] b [] d size same = (refl, same)
same_front [] b (z ∷ c) d size same = absurd (omega (arith, size))
same_front (x ∷ a) b [] d size same = absurd (omega (arith, size))
same_front {X} (x ∷ a) b (z ∷ c) d size same =
    let first : x ≡ z = cc in
    let more : a ++ b ≡ c ++ d = cc in
    let rest = same_front a b c d (omega (arith, size)) more in
    ((λ i. first i ∷ rest.0 i), rest.1)

-- a full frame and another have more items than one frame
two_long : (f e : List Item) (frames : List (List Item)) (g : List Item) → AllByRecursion IsFrame (f ∷ e ∷ frames)
    → length f ≡ frame_limit → length g ≤ frame_limit → all_of (f ∷ e ∷ frames) ≡ all_of (g ∷ []) → ⊥
two_long f e frames g (is, (next, each)) size few same =
    let whole = length-append f (all_of (e ∷ frames)) in
    let back = length-append e (all_of frames) in
    omega (arith, next, size, few, ap length same, length-append g [], whole, back)

frames_one_of : (frames other : List (List Item)) → AllByRecursion IsFrame frames → AreFull frames
    → AllByRecursion IsFrame other → AreFull other → all_of frames ≡ all_of other → frames ≡ other
frames_one_of [] [] each full each_other full_other same = refl
frames_one_of [] (g ∷ other) each full (is, are) full_other same =
    absurd (omega (arith, is, ap length same, length-append g (all_of other)))
frames_one_of (f ∷ frames) [] (is, are) full each_other full_other same =
    absurd (omega (arith, is, ap length same, length-append f (all_of frames)))
frames_one_of (f ∷ []) (g ∷ []) each full each_other full_other same =
    let alike : f ≡ g = sym (append-nil f) ∙ same ∙ append-nil g in
    ap (λ (l : List Item). l ∷ []) alike
frames_one_of (f ∷ []) (g ∷ h ∷ other) (is, none) full each_other (size, full_other) same =
    absurd (two_long g h other f each_other size is.1 (sym same))
frames_one_of (f ∷ e ∷ frames) (g ∷ []) each (size, full) (is, none) full_other same =
    absurd (two_long f e frames g each size is.1 same)
frames_one_of (f ∷ e ∷ frames) (g ∷ h ∷ other) (is, each) (size, full) (also, each_other) (same_size, full_other) same =
    let parts = same_front f (all_of (e ∷ frames)) g (all_of (h ∷ other)) (size ∙ sym same_size) same in
    let rest = frames_one_of (e ∷ frames) (h ∷ other) each full each_other full_other parts.1 in
    λ i. parts.0 i ∷ rest i

-- and no others
pub frames_one : (frames other : List (List Item)) (items : List Item) → AreFrames frames items → AreFrames other items
    → frames ≡ other
frames_one frames other items are also =
    frames_one_of frames other are.each are.full also.each also.full (are.all ∙ sym also.all)
