-- What an offer answers.
use Rattle.std.specs.Prelude.{ℕ, List, [], ◌∷◌, if◌then◌else◌}
use Rattle.std.specs.Cmp.Lexicographic.{slice_cmp}
use Rattle.std.specs.Ordering.{is_eq, nat_cmp}
use Rattle.topk_heap.specs.declared.offer.Offer.{Offer}
use Rattle.topk_heap.specs.declared.offer.Offer.TheVariants.{Kept, KeptDropping, Refused}

-- the answer to the offer of a key, by the keys that it dropped: the key itself, or one that was held before
abbrev pub answer_of : List ℕ → List (List ℕ) → Offer
answer_of key [] = Kept
answer_of key (dropped ∷ others) =
    if is_eq (slice_cmp nat_cmp dropped key) then Refused else KeptDropping dropped
