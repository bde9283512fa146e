-- What is said of a value that may be missing.
use Rattle.std.proofs.Common.{Option, None, Some, Result, Ok, Err}
use Rattle.std.specs.Prelude.{IfSome, IfNone, IfOk, MatchOption}

pub when_some : {A : Type 0} (P : Type 0) (Q : A → Type 0) (found : Option A) → MatchOption found P Q → IfSome found Q
when_some P Q None told = tt
when_some P Q (Some value) told = told

pub when_none : {A : Type 0} (P : Type 0) (Q : A → Type 0) (found : Option A) → MatchOption found P Q → IfNone found P
when_none P Q None told = told
when_none P Q (Some value) told = tt

-- what is said where none was found says more
pub none_says : {A E P Q : Type 0} (read : Result (Option A) E) → (P → Q) → IfOk read (λ found. IfNone found P)
    → IfOk read (λ found. IfNone found Q)
none_says (Ok None) more told = more told
none_says (Ok (Some value)) more told = tt
none_says (Err fault) more told = tt
