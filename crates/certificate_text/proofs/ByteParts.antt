-- The bytes of a node without its children.
use Rattle.std.proofs.Common.{◌≡◌, ℕ, suc, zero, ◌+◌, ◌-◌, ◌≤◌, ◌<◌, inl, inr, ◌^◌, Bool, true, false, ◌&&◌, cond, List, [], ◌∷◌, ◌++◌, length, map, take, drop, replicate, get_or, refl, sym, ◌∙◌, ap, ap₂, subst, arith, length-append, w64}
use Rattle.std.specs.Prelude.{sum, nat_lt, nat_le}
use Rattle.std.specs.Int.{to_le_bytes, from_le_bytes}
use Rattle.std.specs.List.{AllByRecursion, list_all}
use Rattle.std.proofs.Math.Seq.{take-nil}
use Rattle.std.proofs.lemmas.List.{length-replicate, take_all, get_or_append_left, get_or-append_right}
use Rattle.std.proofs.lemmas.Bool.{cases_lt, and_parts, leb-true, ltb-true, lt-ltb, le-leb}
use Rattle.std.proofs.lemmas.Nat.{from_le_bytes-to_le_bytes_8, le_bytes_8}
use Rattle.certificate_text.specs.Bytes.{in_eights, part_bytes}
use Rattle.bound_certificate.specs.Formed.{are_prices}
use Rattle.bound_certificate.specs.Node.{Part, BranchPart, OverPart, HallPart, DualPart, FullPart}
use Rattle.certificate_text.specs.NodeHead.{head_part, IsSound}
use Rattle.certificate_text.specs.ReadNode.{kind_of, body_of, head_bytes, head_body, FitsAt, least_kind, HasKind, AreNames, IsPrice, ArePriced, counted_eights, no_cost, one_byte}
use Rattle.certificate_text.specs.Reading.{Stands, IsCut, IsNone, Fails, Between, Several}
use Rattle.certificate_text.specs.declared.node_head.NodeHead.{NodeHead}
use Rattle.certificate_text.specs.declared.node_head.NodeHead.TheVariants.{Branch, Over, Hall, Dual, Full}
use Rattle.certificate_text.specs.declared.fault.TreeBytesFault.{TreeBytesFault}
use Rattle.certificate_text.specs.declared.fault.TreeBytesFault.TheVariants.{Short, Shape, Memory}
use Rattle.bound_certificate.proofs.Counted.{sum-cons}
use Rattle.certificate_text.proofs.Reading.{Known, Apart, Row, row_unique}
use Rattle.certificate_text.proofs.Severals.{Filler, filled, several_known, stands_more, Hangs, hangs_first, hangs_more, free_stands, free_fails}

-- a byte
pub byte_known : (least most : ℕ) → Known (Between least most) one_byte
byte_known least most x =
    record { only = λ y u v may will agree. (let same : x ≡ y = cc in same, let rest : u ≡ v = cc in rest) }

-- fronts of one length
pub same_fronts : (xs ys u v : List ℕ) → length xs ≡ length ys → xs ++ u ≡ ys ++ v → (xs ≡ ys) × (u ≡ v)
same_fronts [] [] u v size agree = (refl, agree)
same_fronts [] (y ∷ ys) u v size agree = absurd (omega arith)
same_fronts (x ∷ xs) [] u v size agree = absurd (omega arith)
same_fronts (x ∷ xs) (y ∷ ys) u v size agree =
    let here : x ≡ y = cc in
    let rest : xs ++ u ≡ ys ++ v = cc in
    let same = same_fronts xs ys u v (omega arith) rest in
    (ap₂ (λ t ts. t ∷ ts) here same.0, same.1)

pub names_known : (count : ℕ) → Known (AreNames count) (λ names. names)
names_known count xs = record { only = λ ys u v may will agree. same_fronts xs ys u v (may.size ∙ sym will.size) agree }

-- a number
pub number_known : Known IsPrice (λ x. to_le_bytes w64 x)
number_known x = record {
  only = λ y u v may will agree.
      let same = same_fronts (to_le_bytes w64 x) (to_le_bytes w64 y) u v refl agree in
      let small : x < 2 ^ 64 = omega arith in
      let little : y < 2 ^ 64 = omega arith in (
        sym (from_le_bytes-to_le_bytes_8 x small) ∙ ap (from_le_bytes w64) same.0
            ∙ from_le_bytes-to_le_bytes_8 y little,
        same.1,
      );
}

free : (xs : List ℕ) → sum (map no_cost xs) ≡ 0
free [] = refl
free (x ∷ xs) = omega (arith, sum-cons 0 (map no_cost xs), free xs)

pub zero_price : Filler IsPrice no_cost
zero_price = record { thing = 0; may = omega arith; free = refl }

-- a count, and so many numbers
pub row_counted : (limit : ℕ)
    → Row (Between 0 limit) (λ c. Several IsPrice no_cost c 0) (ArePriced limit) one_byte in_eights counted_eights
    (λ c numbers. numbers)
row_counted limit = record {
  joined = λ c numbers may will. record { few = omega (arith, may.high, will.number); each = will.each };
  spelled = λ c numbers may will. ap (λ n. n ∷ in_eights numbers) will.number;
  apart = λ numbers may. record {
    first = length numbers;
    second = numbers;
    may = record { low = omega arith; high = may.few };
    then = record { number = refl; each = may.each; few = omega (arith, free numbers) };
    is = refl;
  };
  goes_on = λ c may. filled zero_price c 0;
  known = byte_known 0 limit;
}

pub counted_known : (limit : ℕ) → Known (ArePriced limit) counted_eights
counted_known limit = row_unique (row_counted limit) (λ c may. several_known number_known c 0)

-- a count, and so many needs
zeros_named : (n : ℕ) → AreNames n (replicate n 0)
zeros_named zero = record { size = refl; each = refl }
zeros_named (suc n) = record { size = omega (arith, (zeros_named n).size); each = (zeros_named n).each }

hall_apart : (head : NodeHead) → HasKind 2 head → Apart (Between 0 64) AreNames (λ c names. Hall names) head
hall_apart (Branch children) may = absurd (omega (arith, may.kind_is))
hall_apart Over may = absurd (omega (arith, may.kind_is))
hall_apart (Hall names) may =
    let parts = and_parts (nat_le (length names) 64) (list_all (λ x. nat_lt x 64) names) may.sound in
    record {
      first = length names;
      second = names;
      may = record { low = omega arith; high = leb-true (length names) 64 parts.0 };
      then = record { size = refl; each = parts.1 };
      is = refl;
    }
hall_apart (Dual lambda mu) may = absurd (omega (arith, may.kind_is))
hall_apart Full may = absurd (omega (arith, may.kind_is))

pub both_true : (a b : Bool) → a ≡ true → b ≡ true → (a && b) ≡ true
both_true a b x y = ap₂ (λ p q. p && q) x y

pub row_hall : Row (Between 0 64) AreNames (HasKind 2) one_byte (λ names. names) head_body (λ c names. Hall names)
row_hall = record {
  joined = λ c names may will. record {
    kind_is = refl;
    sound = both_true (nat_le (length names) 64) (list_all (λ x. nat_lt x 64) names)
        (le-leb (length names) 64 (omega (arith, may.high, will.size))) will.each;
  };
  spelled = λ c names may will. ap (λ n. n ∷ names) will.size;
  apart = hall_apart;
  goes_on = λ c may. (replicate c 0, zeros_named c);
  known = byte_known 0 64;
}

pub hall_known : Known (HasKind 2) head_body
hall_known = row_unique row_hall (λ c may. names_known c)

-- numbers and numbers
pub priced_are : (xs : List ℕ) → AllByRecursion IsPrice xs → are_prices xs ≡ true
priced_are [] each = refl
priced_are (x ∷ xs) each =
    both_true (nat_lt x (2 ^ 56)) (are_prices xs) (lt-ltb x (2 ^ 56) each.0) (priced_are xs each.1)

pub are_priced : (xs : List ℕ) → are_prices xs ≡ true → AllByRecursion IsPrice xs
are_priced [] are = tt
are_priced (x ∷ xs) are =
    let parts = and_parts (nat_lt x (2 ^ 56)) (are_prices xs) are in
    (ltb-true x (2 ^ 56) parts.0, are_priced xs parts.1)

dual_sound : (lambda mu : List ℕ) → ArePriced 64 lambda → ArePriced 32 mu → HasKind 3 (Dual lambda mu)
dual_sound lambda mu may will =
    let sizes = both_true (nat_le (length lambda) 64) (nat_le (length mu) 32) (le-leb (length lambda) 64 may.few)
    (le-leb (length mu) 32 will.few) in
    let first = both_true (nat_le (length lambda) 64 && nat_le (length mu) 32) (are_prices lambda) sizes
    (priced_are lambda may.each) in
    record {
      kind_is = refl;
      sound = both_true (nat_le (length lambda) 64 && nat_le (length mu) 32 && are_prices lambda) (are_prices mu) first
          (priced_are mu will.each);
    }

dual_apart : (head : NodeHead) → HasKind 3 head → Apart (ArePriced 64) (λ lambda. ArePriced 32) Dual head
dual_apart (Branch children) may = absurd (omega (arith, may.kind_is))
dual_apart Over may = absurd (omega (arith, may.kind_is))
dual_apart (Hall names) may = absurd (omega (arith, may.kind_is))
dual_apart (Dual lambda mu) may =
    let all = and_parts (nat_le (length lambda) 64 && nat_le (length mu) 32 && are_prices lambda)
    (are_prices mu) may.sound in
    let some = and_parts (nat_le (length lambda) 64 && nat_le (length mu) 32) (are_prices lambda) all.0 in
    let sizes = and_parts (nat_le (length lambda) 64) (nat_le (length mu) 32) some.0 in
    record {
      first = lambda;
      second = mu;
      may = record { few = leb-true (length lambda) 64 sizes.0; each = are_priced lambda some.1 };
      then = record { few = leb-true (length mu) 32 sizes.1; each = are_priced mu all.1 };
      is = refl;
    }
dual_apart Full may = absurd (omega (arith, may.kind_is))

pub row_dual : Row (ArePriced 64) (λ lambda. ArePriced 32) (HasKind 3) counted_eights counted_eights head_body Dual
row_dual = record {
  joined = dual_sound;
  spelled = λ lambda mu may will. refl;
  apart = dual_apart;
  goes_on = λ lambda may. ([], record { few = omega arith; each = tt });
  known = counted_known 64;
}

pub dual_known : Known (HasKind 3) head_body
dual_known = row_unique row_dual (λ lambda may. counted_known 32)

-- a Branch's count
pub branch_sound : (c : ℕ) → Between 1 8 c → HasKind 0 (Branch c)
branch_sound c may = record {
  kind_is = refl;
  sound = both_true (nat_le 1 c) (nat_le c 8) (le-leb 1 c may.low) (le-leb c 8 may.high);
}

pub branch_apart : (head : NodeHead) → HasKind 0 head → (c : ℕ) × Between 1 8 c × (head ≡ Branch c)
branch_apart (Branch c) may =
    let parts = and_parts (nat_le 1 c) (nat_le c 8) may.sound in
    (c, record { low = leb-true 1 c parts.0; high = leb-true c 8 parts.1 }, refl)
branch_apart Over may = absurd (omega (arith, may.kind_is))
branch_apart (Hall names) may = absurd (omega (arith, may.kind_is))
branch_apart (Dual lambda mu) may = absurd (omega (arith, may.kind_is))
branch_apart Full may = absurd (omega (arith, may.kind_is))

branch_known : Known (HasKind 0) head_body
branch_known x = record {
  only = λ y u v may will agree.
      let one = branch_apart x may in
      let two = branch_apart y will in
      let same = (byte_known 1 8 one.0).only two.0 u v one.1 two.1
      (sym (ap (λ h. head_body h ++ u) one.2) ∙ agree ∙ ap (λ h. head_body h ++ v) two.2) in
      (one.2 ∙ ap Branch same.0 ∙ sym two.2, same.1);
}

-- the kinds with no body
over_is : (head : NodeHead) → HasKind 1 head → head ≡ Over
over_is (Branch children) may = absurd (omega (arith, may.kind_is))
over_is Over may = refl
over_is (Hall names) may = absurd (omega (arith, may.kind_is))
over_is (Dual lambda mu) may = absurd (omega (arith, may.kind_is))
over_is Full may = absurd (omega (arith, may.kind_is))

full_is : (head : NodeHead) → HasKind 4 head → head ≡ Full
full_is (Branch children) may = absurd (omega (arith, may.kind_is))
full_is Over may = absurd (omega (arith, may.kind_is))
full_is (Hall names) may = absurd (omega (arith, may.kind_is))
full_is (Dual lambda mu) may = absurd (omega (arith, may.kind_is))
full_is Full may = refl

alone_known : (kind : ℕ) (only : NodeHead) → head_body only ≡ []
    → ((head : NodeHead) → HasKind kind head → head ≡ only) → Known (HasKind kind) head_body
alone_known kind only none is x = record {
  only = λ y u v may will agree.
      let same : x ≡ y = is x may ∙ sym (is y will) in
      let front : head_body x ≡ [] = ap head_body (is x may) ∙ none in
      let back : head_body y ≡ [] = ap head_body (is y will) ∙ none in
      (same, sym (ap (λ xs. xs ++ u) front) ∙ agree ∙ ap (λ xs. xs ++ v) back);
}

kinds : (head : NodeHead) → kind_of (head_part head) ≤ 4
kinds (Branch children) = omega arith
kinds Over = omega arith
kinds (Hall names) = omega arith
kinds (Dual lambda mu) = omega arith
kinds Full = omega arith

pub body_known : (kind : ℕ) → Known (HasKind kind) head_body
body_known zero = branch_known
body_known (suc zero) = alone_known 1 Over refl over_is
body_known (suc (suc zero)) = hall_known
body_known (suc (suc (suc zero))) = dual_known
body_known (suc (suc (suc (suc zero)))) = alone_known 4 Full refl full_is
body_known (suc (suc (suc (suc (suc k))))) =
    λ x. record { only = λ y u v may will agree. absurd (omega (arith, kinds x, may.kind_is)) }

some_body : (kind : ℕ) → kind ≤ 4 → (head : NodeHead) × HasKind kind head
some_body zero few = (Branch 1, record { kind_is = refl; sound = refl })
some_body (suc zero) few = (Over, record { kind_is = refl; sound = refl })
some_body (suc (suc zero)) few = (Hall [], record { kind_is = refl; sound = refl })
some_body (suc (suc (suc zero))) few = (Dual [] [], record { kind_is = refl; sound = refl })
some_body (suc (suc (suc (suc zero)))) few = (Full, record { kind_is = refl; sound = refl })
some_body (suc (suc (suc (suc (suc k))))) few = absurd (omega arith)

-- a kind byte and a body are a node
part_split : (part : Part) → part_bytes part ≡ kind_of part ∷ body_of part
part_split (BranchPart children) = refl
part_split OverPart = refl
part_split (HallPart names) = refl
part_split (DualPart lambda mu) = refl
part_split FullPart = refl

least_of : (d b : ℕ) → d < 64 → 0 < b → least_kind d b ≡ 0
least_of d b deep left =
    ap (λ (t : Bool). cond {A = ℕ} t 0 1) (both_true (nat_lt d 64) (nat_lt 0 b) (lt-ltb d 64 deep) (lt-ltb 0 b left))

branch_left : (d b : ℕ) → least_kind d b ≤ 0 → (d < 64) × (0 < b)
branch_left d b low = (grind (arith, low), grind (arith, low))

pub least-le : (d b : ℕ) → least_kind d b ≤ 1
least-le d b = grind arith

head_fits : (d b kind : ℕ) (head : NodeHead) → Between (least_kind d b) 4 kind → HasKind kind head → FitsAt d b head
head_fits d b kind (Branch c) may will =
    let left = branch_left d b (omega (arith, may.low, will.kind_is)) in
    let range = and_parts (nat_le 1 c) (nat_le c 8) will.sound in
    record {
      formed = both_true (nat_lt d 64 && nat_le 1 c) (nat_le c 8)
          (both_true (nat_lt d 64) (nat_le 1 c) (lt-ltb d 64 left.0) range.0) range.1;
      few = left.1;
    }
head_fits d b kind Over may will = record { formed = refl; few = omega arith }
head_fits d b kind (Hall names) may will = record { formed = will.sound; few = omega arith }
head_fits d b kind (Dual lambda mu) may will = record { formed = will.sound; few = omega arith }
head_fits d b kind Full may will = record { formed = refl; few = omega arith }

fitting_kind : (d b : ℕ) (head : NodeHead) → FitsAt d b head
    → (least_kind d b ≤ kind_of (head_part head)) × IsSound (head_part head)
fitting_kind d b (Branch c) may =
    let parts = and_parts (nat_lt d 64 && nat_le 1 c) (nat_le c 8) may.formed in
    let front = and_parts (nat_lt d 64) (nat_le 1 c) parts.0 in
    (omega (arith, least_of d b (ltb-true d 64 front.0) may.few), both_true (nat_le 1 c) (nat_le c 8) front.1 parts.1)
fitting_kind d b Over may = (least-le d b, refl)
fitting_kind d b (Hall names) may = (omega (arith, least-le d b), may.formed)
fitting_kind d b (Dual lambda mu) may = (omega (arith, least-le d b), may.formed)
fitting_kind d b Full may = (omega (arith, least-le d b), refl)

pub row_head : (d b : ℕ)
    → Row (Between (least_kind d b) 4) HasKind (FitsAt d b) one_byte head_body head_bytes (λ kind head. head)
row_head d b = record {
  joined = head_fits d b;
  spelled = λ kind head may will. part_split (head_part head) ∙ ap (λ k. k ∷ head_body head) will.kind_is;
  apart = λ head may.
      let fitting = fitting_kind d b head may in
      record {
        first = kind_of (head_part head);
        second = head;
        may = record { low = fitting.0; high = kinds head };
        then = record { kind_is = refl; sound = fitting.1 };
        is = refl;
      };
  goes_on = λ kind may. some_body kind may.high;
  known = byte_known (least_kind d b) 4;
}

pub head_known : (d b : ℕ) → Known (FitsAt d b) head_bytes
head_known d b = row_unique (row_head d b) (λ kind may. body_known kind)

-- bytes that end inside so many needs, and bytes that are no needs
front_passes : (p : ℕ → Bool) (xs ys more rest : List ℕ) → list_all p ys ≡ true → xs ++ more ≡ ys ++ rest
    → list_all p (take (length ys) xs) ≡ true
front_passes p [] ys more rest all agree = ap (list_all p) (take-nil (length ys))
front_passes p (x ∷ xs) [] more rest all agree = refl
front_passes p (x ∷ xs) (y ∷ ys) more rest all agree =
    let here : x ≡ y = cc in
    let others : xs ++ more ≡ ys ++ rest = cc in
    let parts = and_parts (p y) (list_all p ys) all in
    both_true (p x) (list_all p (take (length ys) xs)) (ap p here ∙ parts.0)
    (front_passes p xs ys more rest parts.1 others)

pub names_none : (count : ℕ) (bytes : List ℕ) → list_all (λ x. nat_lt x 64) (take count bytes) ≡ false
    → IsNone (AreNames count) (λ names. names) bytes
names_none count bytes none = λ names more rest may agree.
    let all = front_passes (λ x. nat_lt x 64) bytes names more rest may.each agree in
    let some : list_all (λ x. nat_lt x 64) (take count bytes) ≡ true =
    ap (λ n. list_all (λ x. nat_lt x 64) (take n bytes)) (sym may.size) ∙ all in
    cc

zeros_after : (xs : List ℕ) (n : ℕ) → list_all (λ x. nat_lt x 64) xs ≡ true
    → list_all (λ x. nat_lt x 64) (xs ++ replicate n 0) ≡ true
zeros_after [] n all = (zeros_named n).each
zeros_after (x ∷ xs) n all =
    let parts = and_parts (nat_lt x 64) (list_all (λ x. nat_lt x 64) xs) all in
    both_true (nat_lt x 64) (list_all (λ x. nat_lt x 64) (xs ++ replicate n 0)) parts.0 (zeros_after xs n parts.1)

pub names_cut : (count : ℕ) (bytes : List ℕ) → list_all (λ x. nat_lt x 64) (take count bytes) ≡ true
    → length bytes < count → IsCut (AreNames count) (λ names. names) bytes
names_cut count bytes all few =
    let whole : take count bytes ≡ bytes = take_all count bytes (omega arith) in
    let left = count - length bytes in
    record {
      thing = bytes ++ replicate left 0;
      rest = replicate left 0;
      may = record {
        size = length-append bytes (replicate left 0) ∙ omega (arith, length-replicate {A = ℕ} left 0);
        each = zeros_after bytes left (sym (ap (list_all (λ x. nat_lt x 64)) whole) ∙ all);
      };
      some = omega (arith, length-replicate {A = ℕ} left 0);
      parts = refl;
    }

-- bytes that end inside a number
zero_at : (n i : ℕ) → get_or {A = ℕ} (replicate n 0) i 0 ≡ 0
zero_at zero i = refl
zero_at (suc n) zero = refl
zero_at (suc n) (suc i) = zero_at n i

low_zeros : (bytes : List ℕ) (n : ℕ) → ((i : ℕ) → get_or bytes i 0 < 256) → (i : ℕ)
    → get_or (bytes ++ replicate n 0) i 0 < 256
low_zeros bytes n low i =
    elim (cases_lt i (length bytes)) [
      | inl inside ↦ omega (arith, get_or_append_left bytes (replicate n 0) 0 i inside, low i)
      | inr behind ↦ omega (
        arith,
        get_or-append_right bytes (replicate n 0) (length bytes) i 0 refl behind,
        zero_at n
            (i - length bytes),
      )
    ]

-- eight bytes of which the last is 0 are a number below 2^56
small_number : (whole : List ℕ) → ((i : ℕ) → get_or whole i 0 < 256) → get_or whole 7 0 ≡ 0
    → from_le_bytes w64 whole < 2 ^ 56
small_number whole low last =
    omega (arith, low 0, low 1, low 2, low 3, low 4, low 5, low 6, last)

pub number_cut : (bytes : List ℕ) → length bytes < 8 → ((i : ℕ) → get_or bytes i 0 < 256)
    → IsCut IsPrice (λ x. to_le_bytes w64 x) bytes
number_cut bytes few low =
    let left = 8 - length bytes in
    let whole = bytes ++ replicate left 0 in
    let last : get_or whole 7 0 ≡ 0 =
    get_or-append_right bytes (replicate left 0) (length bytes) 7 0 refl (omega arith)
    ∙ zero_at left (7 - length bytes) in
    let size : length whole ≡ 8 =
    length-append bytes (replicate left 0) ∙ omega (arith, length-replicate {A = ℕ} left 0) in
    record {
      thing = from_le_bytes w64 whole;
      rest = replicate left 0;
      may = small_number whole (low_zeros bytes left low) last;
      some = omega (arith, length-replicate {A = ℕ} left 0);
      parts = le_bytes_8 whole (from_le_bytes w64 whole) size (low_zeros bytes left low) refl;
    }

-- bytes that end before a byte
pub byte_cut : (least most : ℕ) (bytes : List ℕ) → least ≤ most → length bytes ≡ 0
    → IsCut (Between least most) one_byte bytes
byte_cut least most [] range none =
    record {
      thing = least;
      rest = least ∷ [];
      may = record
          { low = omega arith; high = range };
      some = omega arith;
      parts = refl;
    }
byte_cut least most (x ∷ xs) range none = absurd (omega arith)

-- a Branch's faults are those of its count
pub branch_fails : (bytes : List ℕ) (fault : TreeBytesFault) → Fails (Between 1 8) one_byte bytes fault
    → Fails (HasKind 0) head_body bytes fault
branch_fails bytes Short cut =
    record {
      thing = Branch cut.thing;
      rest = cut.rest;
      may = branch_sound cut.thing cut.may;
      some = cut.some;
      parts = cut.parts;
    }
branch_fails bytes Shape none = λ head more rest may agree.
    let parts = branch_apart head may in
    none parts.0 more rest parts.1 (agree ∙ ap (λ h. head_body h ++ rest) parts.2)
branch_fails bytes Memory none = tt

-- the numbers that were read, and one more
pub numbers_stand : (bytes rest : List ℕ) (i at k : ℕ) (xs : List ℕ) (x : ℕ)
    → Stands (Several IsPrice no_cost i 0) in_eights bytes xs at → rest ≡ drop at bytes
    → Stands IsPrice (λ x. to_le_bytes w64 x) rest x k
    → Stands (Several IsPrice no_cost (i + 1) 0) in_eights bytes (xs ++ x ∷ []) (at + k)
numbers_stand bytes rest i at k xs x before place here =
    let next = free_stands (drop at bytes) x k refl
    (subst (λ ys. Stands IsPrice (λ x. to_le_bytes w64 x) ys x k) place here) in
    stands_more bytes i 0 0 at k xs x before next (omega (arith, free xs))

pub numbers_hang : (count : ℕ) (bytes rest : List ℕ) (i at k x : ℕ) → i < count
    → Hangs IsPrice (λ x. to_le_bytes w64 x) no_cost count 0 bytes (count - i) 0 at → rest ≡ drop at bytes
    → Stands IsPrice (λ x. to_le_bytes w64 x) rest x k
    → Hangs IsPrice (λ x. to_le_bytes w64 x) no_cost count 0 bytes (count - (i + 1)) 0 (at + k)
numbers_hang count bytes rest i at k x within hangs place here =
    let next = free_stands (drop at bytes) x k refl
    (subst (λ ys. Stands IsPrice (λ x. to_le_bytes w64 x) ys x k) place here) in
    hangs_more number_known zero_price count 0 bytes (count - i) (count - (i + 1)) 0 at k x hangs (omega arith) next

pub numbers_fail : (count : ℕ) (bytes rest : List ℕ) (i at : ℕ) (fault : TreeBytesFault) → i < count
    → Hangs IsPrice (λ x. to_le_bytes w64 x) no_cost count 0 bytes (count - i) 0 at → rest ≡ drop at bytes
    → Fails IsPrice (λ x. to_le_bytes w64 x) rest fault
    → Fails (Several IsPrice no_cost count 0) in_eights bytes fault
numbers_fail count bytes rest i at fault within hangs place fails =
    hangs_first number_known zero_price count 0 bytes rest (count - i) (count - (i + 1)) 0 at hangs
    (omega arith) fault place (free_fails IsPrice (λ x. to_le_bytes w64 x) rest fault (λ x. refl) fails)
