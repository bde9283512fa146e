-- Lemmas on the numbers between separators.
use Rattle.std.proofs.Common.{◌≡◌, ℕ, ◌+◌, ◌<◌, ◌≤◌, Bool, true, false, ◌&&◌, List, [], ◌∷◌, ◌++◌, length, map, refl, sym, ap, ◌∙◌, arith, Option, Some, None, nat_lt, nat_le, append_assoc, append-nil}
use Rattle.std.specs.Prelude.{option_and_then, if◌then◌else◌}
use Rattle.std.specs.List.{list_all, slice_split, position_or_len, before_first, after_first}
use Rattle.std.specs.Char.{is_digit}
use Rattle.std.specs.Str.Parse.{AllDigits, digits_value}
use Rattle.std.proofs.lemmas.Bool.Decides.{nat_tests}
use Rattle.std.proofs.lemmas.Grind.{common_steps}
use Rattle.std.proofs.lemmas.List.Splits.{slice_split_first, slice_split_none}
use Rattle.std.proofs.lemmas.List.Sums.{fails_before_first}
use Rattle.flow_keys.specs.Prefix.{is_number, numbers_of, pushed}

-- the numbers so far, and those of the parts that are left
unfoldable pub numbers_behind : ℕ → ℕ → List ℕ → List (List ℕ) → Option (List ℕ)
numbers_behind base most numbers parts =
    if list_all (is_number base most) parts && nat_le (length numbers + length parts) 8
    then Some (numbers ++ map (digits_value base) parts)
    else None

pub behind_none : (base most : ℕ) (parts : List (List ℕ))
    → numbers_of base most parts ≡ numbers_behind base most [] parts
unfolding numbers_of numbers_behind
behind_none base most parts = grind (arith, nat_tests)

behind_by_test : (base most : ℕ) (numbers part : List ℕ) (parts : List (List ℕ)) (b d : Bool)
    → is_number base most part ≡ b → nat_lt (length numbers) 8 ≡ d
    → numbers_behind base most numbers (part ∷ parts)
    ≡ option_and_then (λ more. numbers_behind base most more parts)
    (if b && d then Some (numbers ++ digits_value base part ∷ []) else None)
unfolding numbers_behind
behind_by_test base most numbers part parts true true e few = grind (arith, nat_tests, common_steps, append_assoc)
behind_by_test base most numbers part parts true false e few = grind (arith, nat_tests, common_steps)
behind_by_test base most numbers part parts false d e few = grind (arith, nat_tests)

-- one part, and then those behind it
pub behind_pushed : (base most : ℕ) (numbers part : List ℕ) (parts : List (List ℕ))
    → numbers_behind base most numbers (part ∷ parts)
    ≡ option_and_then (λ more. numbers_behind base most more parts) (pushed base most numbers part)
unfolding pushed
behind_pushed base most numbers part parts = behind_by_test base most numbers part parts _ _ refl refl

pub behind_all : (base most : ℕ) (numbers : List ℕ) → length numbers ≤ 8
    → numbers_behind base most numbers [] ≡ Some numbers
unfolding numbers_behind
behind_all base most numbers few = grind (arith, nat_tests, append-nil)

-- a part that is taken leaves those behind it, and one that is not taken leaves nothing
pub behind_some : (base most : ℕ) (numbers more part : List ℕ) (parts : List (List ℕ))
    → Some more ≡ pushed base most numbers part
    → numbers_behind base most numbers (part ∷ parts) ≡ numbers_behind base most more parts
behind_some base most numbers more part parts taken =
    behind_pushed base most numbers part parts
    ∙ ap (option_and_then (λ more. numbers_behind base most more parts)) (sym taken)

pub behind_refused : (base most : ℕ) (numbers part : List ℕ) (parts : List (List ℕ))
    → None ≡ pushed base most numbers part → numbers_behind base most numbers (part ∷ parts) ≡ None
behind_refused base most numbers part parts refused =
    behind_pushed base most numbers part parts
    ∙ ap (option_and_then (λ more. numbers_behind base most more parts)) (sym refused)

few_by_test : (base most : ℕ) (numbers more part : List ℕ) (b d : Bool) → nat_lt (length numbers) 8 ≡ d
    → Some more ≡ (if b && d then Some (numbers ++ digits_value base part ∷ []) else None) → length more ≤ 8
few_by_test base most numbers more part true true few taken =
    let same : more ≡ numbers ++ digits_value base part ∷ [] = cc in grind (arith, nat_tests, common_steps)
few_by_test base most numbers more part true false few taken = cc
few_by_test base most numbers more part false d few taken = cc

pub pushed_few : (base most : ℕ) (numbers more part : List ℕ) → Some more ≡ pushed base most numbers part
    → length more ≤ 8
unfolding pushed
pushed_few base most numbers more part taken = few_by_test base most numbers more part _ _ refl taken

-- the parts around the first separator
pub split_around : (p : ℕ → Bool) (text before behind : List ℕ) → position_or_len p text < length text
    → before ≡ before_first p text → behind ≡ after_first p text → slice_split p text ≡ before ∷ slice_split p behind
split_around p text before behind within is_before is_behind =
    rw (is_before, is_behind) (slice_split_first p text 0 within)

pub split_last : (p : ℕ → Bool) (text : List ℕ) → position_or_len p text ≡ length text → slice_split p text ≡ text ∷ []
split_last p text end = slice_split_none p text (λ k d within. fails_before_first p text k d (omega arith))

-- digits pass the test of digits
pub are_digits : (base : ℕ) (digits : List ℕ) → AllDigits base digits
    → list_all (λ digit. is_digit digit base) digits ≡ true
are_digits base [] all = refl
are_digits base (digit ∷ digits) all = grind (arith, nat_tests, are_digits base digits all.1)
