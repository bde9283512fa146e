-- What parts of a tree say, put together.
use Rattle.std.proofs.Common.{◌≡◌, ℕ, suc, ◌+◌, Bool, ◌||◌, List, [], ◌∷◌, ◌++◌, length, Option, None, Some, ℤ, refl, sym, ◌∙◌, ap, add_assoc, arith}
use Rattle.std.specs.Option.{option_map, option_or}
use Rattle.std.specs.Int.{int_min}
use Rattle.std.proofs.lemmas.Bool.Decides.{nat_tests}
use Rattle.std.proofs.lemmas.Int.{ints}
use Rattle.std.proofs.lemmas.List.Folds.{list_any-append}
use Rattle.std.proofs.Math.Bool.{or_assoc, or-false}
use Rattle.bound_certificate.specs.Problem.{Problem}
use Rattle.bound_certificate.specs.Node.{node_fault}
use Rattle.bound_certificate.specs.Tree.{Visit, first_fault, part_value, lesser, bound_of, is_full, branches_of, full_in, verdict_of, joined, part_verdict}
use Rattle.bound_certificate.specs.declared.verdict.Verdict.{Verdict}

-- the earlier of three faults
option_or-assoc : {X : Type 0} (a b c : Option X) → option_or a (option_or b c) ≡ option_or (option_or a b) c
option_or-assoc None b c = refl
option_or-assoc (Some x) b c = refl

-- the least of three bounds
int_min-assoc : (x y z : ℤ) → int_min x (int_min y z) ≡ int_min (int_min x y) z
int_min-assoc x y z = grind (arith, ints, nat_tests)

lesser-assoc : (a b c : Option ℤ) → lesser a (lesser b c) ≡ lesser (lesser a b) c
lesser-assoc None b c = refl
lesser-assoc (Some x) None c = refl
lesser-assoc (Some x) (Some y) None = refl
lesser-assoc (Some x) (Some y) (Some z) = ap Some (int_min-assoc x y z)

pub lesser-None : (a : Option ℤ) → lesser a None ≡ a
lesser-None None = refl
lesser-None (Some x) = refl

-- the first fault of two lists of nodes is that of the first list, or else that of the second
pub first_fault-append : (p : Problem) (n : ℕ) (vs ws : List Visit)
    → first_fault p n (vs ++ ws) ≡ option_or (first_fault p n vs) (first_fault p (n + length vs) ws)
unfolding first_fault
first_fault-append p n [] ws = ap (λ (k : ℕ). first_fault p k ws) (omega arith)
first_fault-append p n (v ∷ vs) ws =
    let number : (n + 1) + length vs ≡ n + suc (length vs) = omega arith in
    let here = option_map (λ why. record { node = n; why = why }) (node_fault p v.choices v.part) in
    ap (option_or here) (first_fault-append p (n + 1) vs ws)
    ∙ option_or-assoc here (first_fault p (n + 1) vs) (first_fault p ((n + 1) + length vs) ws)
    ∙ ap (λ (k : ℕ). option_or (option_or here (first_fault p (n + 1) vs)) (first_fault p k ws)) number

pub bound_of-append : (p : Problem) (vs ws : List Visit)
    → bound_of p (vs ++ ws) ≡ lesser (bound_of p vs) (bound_of p ws)
unfolding bound_of
bound_of-append p [] ws = refl
bound_of-append p (v ∷ vs) ws =
    ap (lesser (part_value p v.choices v.part)) (bound_of-append p vs ws)
    ∙ lesser-assoc (part_value p v.choices v.part) (bound_of p vs) (bound_of p ws)

pub branches_of-append : (vs ws : List Visit) → branches_of (vs ++ ws) ≡ branches_of vs + branches_of ws
unfolding branches_of
branches_of-append [] ws = omega arith
branches_of-append (v ∷ vs) ws = omega (arith, branches_of-append vs ws)

full_in-append : (vs ws : List Visit) → full_in (vs ++ ws) ≡ (full_in vs || full_in ws)
unfolding full_in
full_in-append vs ws = list_any-append (λ v. is_full v.part) vs ws

-- a verdict of its parts; verdicts with equal parts are equal
abbrev mk : Option ℤ → ℕ → Bool → Verdict
mk bound branches full = record { bound = bound; branches = branches; full = full }

same_verdict : {a b : Option ℤ} {m n : ℕ} {f g : Bool} → a ≡ b → m ≡ n → f ≡ g → mk a m f ≡ mk b n g
same_verdict {a} {b} {m} {n} {f} {g} bounds counts fulls =
    ap (λ (x : Option ℤ). mk x m f) bounds ∙ ap (λ (k : ℕ). mk b k f) counts ∙ ap (λ (h : Bool). mk b n h) fulls

pub verdict_of-append : (p : Problem) (vs ws : List Visit)
    → verdict_of p (vs ++ ws) ≡ joined (verdict_of p vs) (verdict_of p ws)
unfolding verdict_of joined
verdict_of-append p vs ws = same_verdict (bound_of-append p vs ws) (branches_of-append vs ws) (full_in-append vs ws)

pub joined-assoc : (a b c : Verdict) → joined a (joined b c) ≡ joined (joined a b) c
unfolding joined
joined-assoc a b c =
    same_verdict (lesser-assoc a.bound b.bound c.bound) (sym (add_assoc a.branches b.branches c.branches))
    (sym (or_assoc a.full b.full c.full))

-- no nodes add nothing
pub joined-none : (p : Problem) (a : Verdict) → joined a (verdict_of p []) ≡ a
unfolding joined verdict_of bound_of branches_of full_in
joined-none p a = same_verdict (lesser-None a.bound) (omega arith) (or-false a.full)

-- a node, and those after it
pub verdict_of-cons : (p : Problem) (v : Visit) (vs : List Visit)
    → verdict_of p (v ∷ vs) ≡ joined (part_verdict p v.choices v.part) (verdict_of p vs)
unfolding verdict_of joined part_verdict bound_of branches_of full_in
verdict_of-cons p v vs = refl
