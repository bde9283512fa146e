-- What is written in two steps.
use Rattle.std.proofs.Common.{◌≡◌, ℕ, List, ◌++◌, Result, Ok, Err, sym, ◌∙◌, ap, append_assoc}
use Rattle.std.specs.Prelude.{OnOk}

-- a part appended after another
pub written : (new mid old first rest whole : List ℕ) → mid ≡ old ++ first → whole ≡ first ++ rest → new ≡ mid ++ rest
    → new ≡ old ++ whole
written new mid old first rest whole before is after =
    after ∙ ap (λ xs. xs ++ rest) before ∙ append_assoc old first rest ∙ sym (ap (λ xs. old ++ xs) is)

-- what follows where a call succeeds
pub on_ok : {T E P Q : Type 0} (r : Result T E) → (P → Q) → OnOk r P → OnOk r Q
on_ok (Ok x) from holds = from holds
on_ok (Err e) from holds = tt
