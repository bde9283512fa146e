-- What holds of each item of two lists together.
use Rattle.std.proofs.Common.{List, [], ◌∷◌, ◌++◌, All}
use Rattle.std.proofs.lemmas.List.Elements.{All-cons, All-head, All-nil, All-tail}

pub all_left : {X : Type 0} (P : X → Type 0) (xs ys : List X) → All P (xs ++ ys) → All P xs
all_left P [] ys each = All-nil P
all_left P (x ∷ xs) ys each =
    All-cons P x xs (All-head P x (xs ++ ys) each) (all_left P xs ys (All-tail P x (xs ++ ys) each))

pub all_right : {X : Type 0} (P : X → Type 0) (xs ys : List X) → All P (xs ++ ys) → All P ys
all_right P [] ys each = each
all_right P (x ∷ xs) ys each = all_right P xs ys (All-tail P x (xs ++ ys) each)
