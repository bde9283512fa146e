-- Several things read one after another.
use Rattle.std.proofs.Common.{◌≡◌, ℕ, suc, zero, ◌+◌, ◌-◌, List, [], ◌∷◌, ◌++◌, length, map, drop, flat_map, refl, sym, ◌∙◌, ap, ap₂, subst, arith, append_assoc, append-nil, length-append, drop-drop}
use Rattle.std.specs.Prelude.{sum}
use Rattle.std.specs.List.{AllByRecursion}
use Rattle.std.proofs.lemmas.Grind.{flat_map-append}
use Rattle.certificate_text.specs.Reading.{Stands, Fails, One, Several}
use Rattle.certificate_text.specs.declared.fault.TreeBytesFault.{TreeBytesFault}
use Rattle.certificate_text.specs.declared.fault.TreeBytesFault.TheVariants.{Short, Shape, Memory}
use Rattle.bound_certificate.proofs.Counted.{sum-cons}
use Rattle.certificate_text.proofs.Reading.{Unique, Known, Apart, Row, first_fails, second_fails}

-- lists of as many unique things are unique
pub several_only : {X : Type 0} (May : X → Type 0) (f : X → List ℕ) (xs ys : List X) (u v : List ℕ)
    → AllByRecursion (Unique May f) xs → AllByRecursion May xs → AllByRecursion May ys → length xs ≡ length ys
    → flat_map f xs ++ u ≡ flat_map f ys ++ v → (xs ≡ ys) × (u ≡ v)
several_only May f [] [] u v unique may will size agree = (refl, agree)
several_only May f [] (y ∷ ys) u v unique may will size agree = absurd (omega arith)
several_only May f (x ∷ xs) [] u v unique may will size agree = absurd (omega arith)
several_only May f (x ∷ xs) (y ∷ ys) u v unique may will size agree =
    let split : f x ++ (flat_map f xs ++ u) ≡ f y ++ (flat_map f ys ++ v) =
    sym (append_assoc (f x) (flat_map f xs) u) ∙ agree ∙ append_assoc (f y) (flat_map f ys) v in
    let here = unique.0.only y (flat_map f xs ++ u) (flat_map f ys ++ v) may.0 will.0 split in
    let rest = several_only May f xs ys u v unique.1 may.1 will.1 (omega arith) here.1 in
    (ap₂ (λ t ts. t ∷ ts) here.0 rest.0, rest.1)

pub all_known : {X : Type 0} {May : X → Type 0} {f : X → List ℕ} → Known May f → (xs : List X)
    → AllByRecursion (Unique May f) xs
all_known known [] = tt
all_known known (x ∷ xs) = (known x, all_known known xs)

pub several_known : {X : Type 0} {May : X → Type 0} {f : X → List ℕ} {cost : X → ℕ} → Known May f → (n b : ℕ)
    → Known (Several May cost n b) (flat_map f)
several_known {May} {f} known n b xs = record {
  only = λ ys u v may will agree. several_only May f xs ys u v (all_known known xs) may.each will.each
      (may.number ∙ sym will.number) agree;
}

pub one_known : {X : Type 0} {May : X → Type 0} {f : X → List ℕ} {cost : X → ℕ} → Known May f → (b : ℕ)
    → Known (One May cost b) f
one_known known b x = record { only = λ y u v may will agree. (known x).only y u v may.may will.may agree }

-- a thing that costs nothing, as often as one likes
pub record Filler {X : Type 0} (May : X → Type 0) (cost : X → ℕ) : Type 0 where
  pub thing : X
  pub may : May thing
  pub free : cost thing ≡ 0

pub filled : {X : Type 0} {May : X → Type 0} {cost : X → ℕ} → Filler May cost → (n b : ℕ)
    → (xs : List X) × Several May cost n b xs
filled filler zero b = ([], record { number = refl; each = tt; few = omega arith })
filled {cost} filler (suc n) b =
    let rest = filled filler n b in (
      filler.thing ∷ rest.0,
      record {
        number = omega (arith, rest.1.number);
        each = (filler.may, rest.1.each);
        few = omega (arith, rest.1.few, filler.free, sum-cons (cost filler.thing) (map cost rest.0));
      },
    )

-- one thing, and then the others
cons_apart : {X : Type 0} {May : X → Type 0} {cost : X → ℕ} (n b : ℕ) (xs : List X) → Several May cost (suc n) b xs
    → Apart (One May cost b) (λ x. Several May cost n (b - cost x)) (λ x ys. x ∷ ys) xs
cons_apart n b [] may = absurd (omega (arith, may.number))
cons_apart {cost} n b (x ∷ xs) may =
    let spent = sum-cons (cost x) (map cost xs) in
    record {
      first = x;
      second = xs;
      may = record { may = may.each.0; few = omega (arith, may.few, spent) };
      then = record { number = omega (arith, may.number); each = may.each.1; few = omega (arith, may.few, spent) };
      is = refl;
    }

pub row_cons : {X : Type 0} {May : X → Type 0} {f : X → List ℕ} {cost : X → ℕ} → Known May f → Filler May cost
    → (n b : ℕ)
    → Row (One May cost b) (λ x. Several May cost n (b - cost x)) (Several May cost (suc n) b) f (flat_map f)
    (flat_map f) (λ x xs. x ∷ xs)
row_cons {cost} known filler n b = record {
  joined = λ x xs may will. record {
    number = omega (arith, will.number);
    each = (may.may, will.each);
    few = omega (arith, may.few, will.few, sum-cons (cost x) (map cost xs));
  };
  spelled = λ x xs may will. refl;
  apart = λ xs may. cons_apart n b xs may;
  goes_on = λ x may. filled filler n (b - cost x);
  known = one_known known b;
}

-- one thing more
all_more : {X : Type 0} (May : X → Type 0) (xs : List X) (x : X) → AllByRecursion May xs → May x
    → AllByRecursion May (xs ++ x ∷ [])
all_more May [] x each may = (may, tt)
all_more May (y ∷ xs) x each may = (each.0, all_more May xs x each.1 may)

pub sum-more : {X : Type 0} (cost : X → ℕ) (xs : List X) (x : X)
    → sum (map cost (xs ++ x ∷ [])) ≡ sum (map cost xs) + cost x
sum-more cost [] x = omega (arith, sum-cons (cost x) [])
sum-more cost (y ∷ xs) x =
    omega (arith, sum-cons (cost y) (map cost xs), sum-cons (cost y) (map cost (xs ++ x ∷ [])), sum-more cost xs x)

pub stands_more : {X : Type 0} {May : X → Type 0} {f : X → List ℕ} {cost : X → ℕ} (bytes : List ℕ) (i b left at k : ℕ)
    (xs : List X) (x : X) → Stands (Several May cost i b) (flat_map f) bytes xs at
    → Stands (One May cost left) f (drop at bytes) x k → left + sum (map cost xs) ≡ b
    → Stands (Several May cost (i + 1) b) (flat_map f) bytes (xs ++ x ∷ []) (at + k)
stands_more {May} {f} {cost} bytes i b left at k xs x before here spent =
    let whole : flat_map f (xs ++ x ∷ []) ≡ flat_map f xs ++ f x =
    flat_map-append f xs (x ∷ []) ∙ ap (λ ys. flat_map f xs ++ ys) (append-nil (f x)) in
    record {
      may = record {
        number = length-append xs (x ∷ []) ∙ omega (arith, before.may.number);
        each = all_more May xs x before.may.each here.may.may;
        few = omega (arith, sum-more cost xs x, here.may.few, spent);
      };
      size = omega (arith, before.size, here.size, length-append (flat_map f xs) (f x), ap (λ ys. length ys) whole);
      parts =
          before.parts ∙ ap (λ ys. flat_map f xs ++ ys) (here.parts ∙ ap (λ ys. f x ++ ys) (drop-drop k at bytes))
          ∙ sym (append_assoc (flat_map f xs) (f x) (drop (at + k) bytes))
          ∙ sym (ap (λ ys. ys ++ drop (at + k) bytes) whole);
    }

-- what the rest fails for, the whole fails for
pub record Hangs {X : Type 0} (May : X → Type 0) (f : X → List ℕ) (cost : X → ℕ) (n b : ℕ) (bytes : List ℕ)
    (count left at : ℕ) : Type 0 where
  pub fails : (fault : TreeBytesFault) → Fails (Several May cost count left) (flat_map f) (drop at bytes) fault
      → Fails (Several May cost n b) (flat_map f) bytes fault

hangs_suc : {X : Type 0} {May : X → Type 0} {f : X → List ℕ} {cost : X → ℕ} (n b : ℕ) (bytes : List ℕ)
    (whole count left at : ℕ) → Hangs May f cost n b bytes whole left at → whole ≡ suc count
    → Hangs May f cost n b bytes (suc count) left at
hangs_suc {May} {f} {cost} n b bytes whole count left at hangs is =
    subst (λ k. Hangs May f cost n b bytes k left at) is hangs

pub hangs_first : {X : Type 0} {May : X → Type 0} {f : X → List ℕ} {cost : X → ℕ} → Known May f → Filler May cost
    → (n b : ℕ) (bytes rest : List ℕ) (whole count left at : ℕ) → Hangs May f cost n b bytes whole left at
    → whole ≡ suc count
    → (fault : TreeBytesFault) → rest ≡ drop at bytes → Fails (One May cost left) f rest fault
    → Fails (Several May cost n b) (flat_map f) bytes fault
hangs_first {May} {f} {cost} known filler n b bytes rest whole count left at hangs is fault place fails =
    let here = subst (λ xs. Fails (One May cost left) f xs fault) place fails in
    (hangs_suc n b bytes whole count left at hangs is).fails fault
    (first_fails (row_cons known filler count left) (drop at bytes) fault here)

pub hangs_more : {X : Type 0} {May : X → Type 0} {f : X → List ℕ} {cost : X → ℕ} → Known May f → Filler May cost
    → (n b : ℕ) (bytes : List ℕ) (whole count left at k : ℕ) (x : X) → Hangs May f cost n b bytes whole left at
    → whole ≡ suc count
    → Stands (One May cost left) f (drop at bytes) x k → Hangs May f cost n b bytes count (left - cost x) (at + k)
hangs_more {May} {f} {cost} known filler n b bytes whole count left at k x hangs is here = record {
  fails = λ fault fails.
      (hangs_suc n b bytes whole count left at hangs is).fails fault
      (second_fails (row_cons known filler count left) (drop at bytes) x k fault here
      (subst (λ rest. Fails (Several May cost count (left - cost x)) (flat_map f) rest fault)
      (sym (drop-drop k at bytes)) fails));
}

pub hangs_all : {X : Type 0} {May : X → Type 0} {f : X → List ℕ} {cost : X → ℕ} (n b : ℕ) (bytes : List ℕ)
    → Hangs May f cost n b bytes n b 0
hangs_all n b bytes = record { fails = λ fault fails. fails }

-- things that cost nothing
pub free_stands : {X : Type 0} {May : X → Type 0} {f : X → List ℕ} {cost : X → ℕ} (bytes : List ℕ) (x : X) (k : ℕ)
    → cost x ≡ 0 → Stands May f bytes x k → Stands (One May cost 0) f bytes x k
free_stands bytes x k free stands =
    record { may = record { may = stands.may; few = omega (arith, free) }; size = stands.size; parts = stands.parts }

pub free_fails : {X : Type 0} (May : X → Type 0) (f : X → List ℕ) {cost : X → ℕ} (bytes : List ℕ)
    (fault : TreeBytesFault) → ((x : X) → cost x ≡ 0) → Fails May f bytes fault → Fails (One May cost 0) f bytes fault
free_fails May f bytes Short free cut =
    record {
      thing = cut.thing;
      rest = cut.rest;
      may = record
          { may = cut.may; few = omega (arith, free cut.thing) };
      some = cut.some;
      parts = cut.parts;
    }
free_fails May f bytes Shape free none = λ x more rest may agree. none x more rest may.may agree
free_fails May f bytes Memory free none = tt
