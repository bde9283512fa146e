-- Items cut into frames, and a piece for each.
use Rattle.std.proofs.Common.{◌≡◌, ℕ, ◌+◌, ◌-◌, ◌≤◌, ◌<◌, List, [], ◌∷◌, ◌++◌, length, map, take, drop, refl, sym, ◌∙◌, ap, arith, append_assoc}
use Rattle.std.specs.List.{flat_map, AllByRecursion}
use Rattle.std.proofs.Math.Seq.{take-add}
use Rattle.std.proofs.lemmas.Grind.{flat_map-append}
use Rattle.std.proofs.lemmas.List.{append-nil, length-drop, length-take-le, map-append, take_all}
use Rattle.child_jobs.proofs.Written.{all_more}
use Rattle.job_format.specs.Job.{AreFrames, AreFull, IsFrame, IsFull, frame_bytes}
use Rattle.job_format.specs.declared.item.Item.{Item}

-- behind full frames any frame may stand
full_before : (frames : List (List Item)) (frame : List Item) → AllByRecursion IsFull frames
    → AreFull (frames ++ frame ∷ [])
full_before [] frame all = tt
full_before (first ∷ []) frame all = (all.0, tt)
full_before (first ∷ next ∷ frames) frame all = (all.0, full_before (next ∷ frames) frame all.1)

-- the first items cut into frames, which are full where items are left, with a piece for each behind other pieces
pub record FramesAdded (old now : List (List ℕ)) (items : List Item) (done : ℕ) : Type 0 where
  pub frames : List (List Item)
  pub all : flat_map (λ frame. frame) frames ≡ take done items
  pub each : AllByRecursion IsFrame frames
  pub full : AreFull frames
  pub filled : done < length items → AllByRecursion IsFull frames
  pub added : now ≡ old ++ map frame_bytes frames

pub added_none : (old : List (List ℕ)) (items : List Item) → FramesAdded old old items 0
added_none old items = record {
  frames = [];
  all = refl;
  each = tt;
  full = tt;
  filled = λ left. tt;
  added = sym (append-nil old);
}

-- one frame more, from done to end
pub added_more : (old now next : List (List ℕ)) (items : List Item) (done end : ℕ) → done < length items → done < end
    → end ≤ length items → end ≤ done + 4096 → (end < length items → end ≡ done + 4096)
    → FramesAdded old now items done
    → next ≡ now ++ frame_bytes (take (end - done) (drop done items)) ∷ [] → FramesAdded old next items end
added_more old now next items done end left some within few whole before is =
    let frame = take (end - done) (drop done items) in
    let size : length frame ≡ end - done =
    length-take-le (end - done) (drop done items) (omega (arith, length-drop done items)) in
    record {
      frames = before.frames ++ frame ∷ [];
      all = flat_map-append (λ frame. frame) before.frames (frame ∷ [])
          ∙ ap (λ (front : List Item). front ++ (frame ++ [])) before.all
          ∙ ap (λ (end_ : List Item). take done items ++ end_) (append-nil frame)
          ∙ sym (take-add done (end - done) items) ∙ ap (λ (n : ℕ). take n items) (omega arith);
      each = all_more IsFrame before.frames frame before.each (omega (arith, size), omega (arith, size));
      full = full_before before.frames frame (before.filled left);
      filled = λ more. all_more IsFull before.frames frame (before.filled left) (omega (arith, size, whole more));
      added = is ∙ ap (λ (front : List (List ℕ)). front ++ frame_bytes frame ∷ []) before.added
          ∙ append_assoc old (map frame_bytes before.frames) (frame_bytes frame ∷ [])
          ∙ ap (λ (pieces : List (List ℕ)). old ++ pieces)
          (sym (map-append frame_bytes before.frames (frame ∷ [])));
    }

-- all items are cut
pub added_all : (old now : List (List ℕ)) (items : List Item) (done : ℕ) → length items ≤ done
    → (added : FramesAdded old now items done) → AreFrames added.frames items
added_all old now items done all added = record {
  all = added.all ∙ take_all done items all;
  each = added.each;
  full = added.full;
}
