-- What was written behind other bytes, and items cut into frames.
use Rattle.std.proofs.Common.{◌≡◌, ℕ, ◌+◌, ◌-◌, ◌≤◌, ◌<◌, List, [], ◌∷◌, ◌++◌}
use Rattle.std.proofs.Common.{length, take, drop, refl, sym, ◌∙◌, ap, arith, length-append, take-take, append_assoc}
use Rattle.std.specs.List.{flat_map, AllByRecursion}
use Rattle.std.proofs.Math.Seq.{take-add, take-append_seam}
use Rattle.std.proofs.lemmas.Grind.{flat_map-append}
use Rattle.std.proofs.lemmas.List.{append-nil, take_all, length-take-le, length-drop, flat_map_more}
use Rattle.job_format.specs.Job.{IsFrame, IsFull, AreFull, AreFrames, frame_bytes}
use Rattle.job_format.specs.declared.item.Item.{Item}

-- what stood in front stands there still
pub kept_front : (xs more zs : List ℕ) → zs ≡ xs ++ more → take (length xs) zs ≡ xs
kept_front xs more zs is = ap (take (length xs)) is ∙ take-append_seam xs more

pub kept_on : (xs more ys zs : List ℕ) → ys ≡ xs ++ more → take (length ys) zs ≡ ys → take (length xs) zs ≡ xs
kept_on xs more ys zs is kept =
    let size : length ys ≡ length xs + length more = ap length is ∙ length-append xs more in
    sym (take-take (length xs) (length ys) zs (omega arith)) ∙ ap (take (length xs)) kept ∙ kept_front xs more ys is

-- two pieces one behind the other
pub written_on : (old a b one two : List ℕ) → one ≡ old ++ a → two ≡ one ++ b → two ≡ old ++ (a ++ b)
written_on old a b one two first second =
    second ∙ ap (λ (front : List ℕ). front ++ b) first ∙ append_assoc old a b

-- ---- frames

pub all_more : {X : Type 0} (P : X → Type 0) (xs : List X) (x : X) → AllByRecursion P xs → P x
    → AllByRecursion P (xs ++ x ∷ [])
all_more P [] x all here = (here, tt)
all_more P (y ∷ ys) x all here = (all.0, all_more P ys x all.1 here)

-- behind full frames any frame may stand
full_more : (frames : List (List Item)) (frame : List Item) → AllByRecursion IsFull frames
    → AreFull (frames ++ frame ∷ [])
full_more [] frame all = tt
full_more (first ∷ []) frame all = (all.0, tt)
full_more (first ∷ next ∷ frames) frame all = (all.0, full_more (next ∷ frames) frame all.1)

-- the first items cut into frames, which are full where items are left, and written behind other bytes
pub record FramesPut (old now : List ℕ) (items : List Item) (done : ℕ) : Type 0 where
  pub frames : List (List Item)
  pub all : flat_map (λ frame. frame) frames ≡ take done items
  pub each : AllByRecursion IsFrame frames
  pub full : AreFull frames
  pub filled : done < length items → AllByRecursion IsFull frames
  pub written : now ≡ old ++ flat_map frame_bytes frames

pub frames_none : (old : List ℕ) (items : List Item) → FramesPut old old items 0
frames_none old items = record {
  frames = [];
  all = refl;
  each = tt;
  full = tt;
  filled = λ left. tt;
  written = sym (append-nil old);
}

-- one frame more, from done to end
pub frames_more : (old now next : List ℕ) (items : List Item) (done end : ℕ) → done < length items → done < end
    → end ≤ length items → end ≤ done + 4096 → (end < length items → end ≡ done + 4096) → FramesPut old now items done
    → next ≡ now ++ frame_bytes (take (end - done) (drop done items)) → FramesPut old next items end
frames_more old now next items done end left some within few whole before is =
    let frame = take (end - done) (drop done items) in
    let size : length frame ≡ end - done =
    length-take-le (end - done) (drop done items) (omega (arith, length-drop done items)) in
    record {
      frames = before.frames ++ frame ∷ [];
      all = flat_map-append (λ frame. frame) before.frames (frame ∷ [])
          ∙ ap (λ (front : List Item). front ++ (frame ++ [])) before.all
          ∙ ap (λ (end_ : List Item). take done items ++ end_) (append-nil frame)
          ∙ sym (take-add done (end - done) items) ∙ ap (λ (n : ℕ). take n items) (omega arith);
      each = all_more IsFrame before.frames frame before.each (omega (arith, size), omega (arith, size));
      full = full_more before.frames frame (before.filled left);
      filled = λ more. all_more IsFull before.frames frame (before.filled left) (omega (arith, size, whole more));
      written = is ∙ ap (λ (front : List ℕ). front ++ frame_bytes frame) before.written
          ∙ flat_map_more frame_bytes old before.frames frame;
    }

-- all items are cut
pub frames_all : (old now : List ℕ) (items : List Item) (done : ℕ) → length items ≤ done
    → (put : FramesPut old now items done) → AreFrames put.frames items
frames_all old now items done all put = record {
  all = put.all ∙ take_all done items all;
  each = put.each;
  full = put.full;
}
