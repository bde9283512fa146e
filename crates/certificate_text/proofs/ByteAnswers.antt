-- Bytes are always read as something: a thing at their front, or one of the two faults.
use Rattle.std.proofs.Common.{◌≡◌, ℕ, suc, zero, ◌+◌, ◌-◌, ◌≤◌, ◌<◌, ◌⊎◌, inl, inr, ◌^◌, List, [], ◌∷◌, ◌++◌, length, map, take, drop, flat_map, get_or, Result, Ok, Err, refl, sym, ◌∙◌, ap, subst, arith, append_assoc, w64}
use Rattle.std.specs.Prelude.{sum, nat_lt}
use Rattle.std.specs.Int.{to_le_bytes, from_le_bytes}
use Rattle.std.specs.List.{All, list_all}
use Rattle.std.proofs.lemmas.Bool.{cases_Bool, cases_lt}
use Rattle.std.proofs.lemmas.Bool.Decides.{nat_tests}
use Rattle.std.proofs.lemmas.List.{take-append-drop, length-take-le, get_or-take, get_or-drop, get_or_past}
use Rattle.std.proofs.lemmas.List.Elements.{All-get_or}
use Rattle.std.proofs.lemmas.Nat.{from_le_bytes-to_le_bytes_8, le_bytes_8}
use Rattle.bound_certificate.specs.Formed.{branches}
use Rattle.certificate_text.specs.Bytes.{in_eights, bytes_of}
use Rattle.certificate_text.specs.NodeHead.{head_part}
use Rattle.certificate_text.specs.ReadBytes.{ReadsBytes}
use Rattle.certificate_text.specs.ReadNode.{head_bytes, head_body, own_branches, FitsAt, least_kind, HasKind, AreNames, IsPrice, ArePriced, counted_eights, no_cost, one_byte}
use Rattle.certificate_text.specs.ReadTree.{IsFormedAt, followers}
use Rattle.certificate_text.specs.Reading.{Stands, IsNone, Fails, Reads, Between, One, Several}
use Rattle.bound_certificate.specs.declared.tree.Tree.{Tree}
use Rattle.certificate_text.specs.declared.fault.TreeBytesFault.{TreeBytesFault}
use Rattle.certificate_text.specs.declared.fault.TreeBytesFault.TheVariants.{Short, Shape, Memory}
use Rattle.certificate_text.specs.declared.node_head.NodeHead.{NodeHead}
use Rattle.certificate_text.specs.declared.node_head.NodeHead.TheVariants.{Branch, Over, Hall, Dual, Full}
use Rattle.certificate_text.proofs.ByteParts.{same_fronts, row_counted, row_hall, row_dual, row_head, branch_sound, branch_fails, least-le, names_none, names_cut, number_cut, byte_cut, numbers_stand, numbers_hang, numbers_fail}
use Rattle.certificate_text.proofs.ByteTrees.{row_tree, trees_stand, trees_hang, trees_fail, reads_bytes}
use Rattle.certificate_text.proofs.Reading.{Row, row_stands, first_fails, second_fails}
use Rattle.certificate_text.proofs.Severals.{Hangs, hangs_all, sum-more}

-- a fault other than want of memory
pub record IsTold (fault : TreeBytesFault) : Type 0 where
  pub told : ◌≡◌ {A = TreeBytesFault} fault Memory → ⊥

short_told : IsTold Short
short_told = record { told = λ is. cc }

shape_told : IsTold Shape
shape_told = record { told = λ is. cc }

-- a thing stands there, or the bytes fail for one fault
abbrev Found : {X : Type 0} → (X → Type 0) → (X → List ℕ) → List ℕ → Type 0
Found {X} May spell bytes = (x : X) × (n : ℕ) × Stands May spell bytes x n

abbrev Failed : {X : Type 0} → (X → Type 0) → (X → List ℕ) → List ℕ → Type 0
Failed May spell bytes = (fault : TreeBytesFault) × IsTold fault × Fails May spell bytes fault

abbrev Answers : {X : Type 0} → (X → Type 0) → (X → List ℕ) → List ℕ → Type 0
Answers May spell bytes = Found May spell bytes ⊎ Failed May spell bytes

-- bytes are below 256
abbrev AreLow : List ℕ → Type 0
AreLow bytes = (i : ℕ) → get_or bytes i 0 < 256

low_drop : (bytes : List ℕ) (n : ℕ) → AreLow bytes → AreLow (drop n bytes)
low_drop bytes n low i = omega (arith, get_or-drop n bytes i 0, low (n + i))

low_take : (bytes : List ℕ) (n : ℕ) → AreLow bytes → AreLow (take n bytes)
low_take bytes n low i =
    elim (cases_lt i n) [
      | inl inside ↦ omega (arith, get_or-take n bytes i 0 inside, low i)
      | inr behind ↦ omega (arith, get_or_past (take n bytes) i 0 (omega (arith, length-take n bytes)))
    ]
  where
    length-take : (n : ℕ) (bytes : List ℕ) → length (take n bytes) ≤ n
    length-take zero bytes = omega arith
    length-take (suc n) [] = omega arith
    length-take (suc n) (x ∷ xs) = omega (arith, length-take n xs)

-- two parts
row_answers : {X Y Z : Type 0} {P : X → Type 0} {Q : X → Y → Type 0} {R : Z → Type 0}
    {f : X → List ℕ} {g : Y → List ℕ} {h : Z → List ℕ} {join : X → Y → Z} → Row P Q R f g h join
    → (bytes : List ℕ) → Answers P f bytes
    → ((x : X) (n : ℕ) → Stands P f bytes x n → Answers (Q x) g (drop n bytes)) → Answers R h bytes
row_answers {join} row bytes first next =
    elim first [
      | inr failed ↦ inr (failed.0, failed.1, first_fails row bytes failed.0 failed.2)
      | inl found ↦ elim (next found.0 found.1 found.2) [
        | inl more ↦ inl (
          join found.0 more.0,
          found.1 + more.1,
          row_stands row bytes found.0 more.0 found.1 more.1 found.2 more.2,
        )
        | inr failed ↦ inr (
          failed.0,
          failed.1,
          second_fails row bytes found.0 found.1 failed.0 found.2 failed.2,
        )
      ]
    ]

-- a byte
byte_answers : (least most : ℕ) (bytes : List ℕ) → least ≤ most → Answers (Between least most) one_byte bytes
byte_answers least most [] range = inr (Short, short_told, byte_cut least most [] range refl)
byte_answers least most (x ∷ xs) range =
    elim (cases_lt x least) [
      | inl below ↦ inr (
        Shape,
        shape_told,
        λ y more rest may agree.
            let same : x ≡ y = cc in
            absurd (omega (arith, same, below, may.low)),
      )
      | inr low ↦ elim (cases_lt most x) [
        | inl above ↦ inr (
          Shape,
          shape_told,
          λ y more rest may agree.
              let same : x ≡ y = cc in
              absurd (omega (arith, same, above, may.high)),
        )
        | inr high ↦ inl (x, 1, record { may = record { low = low; high = high }; size = refl; parts = refl })
      ]
    ]

-- a number
large_number : (bytes : List ℕ) → AreLow bytes → 8 ≤ length bytes → 2 ^ 56 ≤ from_le_bytes w64 (take 8 bytes)
    → IsNone IsPrice (λ x. to_le_bytes w64 x) bytes
large_number bytes low many large = λ y more rest may agree.
    let front = take 8 bytes in
    let behind = drop 8 bytes in
    let split : front ++ (behind ++ more) ≡ to_le_bytes w64 y ++ rest =
    sym (append_assoc front behind more) ∙ ap (λ (xs : List ℕ). xs ++ more) (take-append-drop 8 bytes) ∙ agree in
    let size : length front ≡ length (to_le_bytes w64 y) = length-take-le 8 bytes many in
    let same = (same_fronts front (to_le_bytes w64 y) (behind ++ more) rest size split).0 in
    let small : y < 2 ^ 64 = omega arith in
    let value : from_le_bytes w64 front ≡ y = ap (from_le_bytes w64) same ∙ from_le_bytes-to_le_bytes_8 y small in
    omega (arith, value, large, may)

number_answers : (bytes : List ℕ) → AreLow bytes → Answers IsPrice (λ x. to_le_bytes w64 x) bytes
number_answers bytes low =
    let front = take 8 bytes in
    let value = from_le_bytes w64 front in
    elim (cases_lt (length bytes) 8) [
      | inl few ↦ inr (Short, short_told, number_cut bytes few low)
      | inr many ↦ elim (cases_lt value (2 ^ 56)) [
        | inl small ↦
            let spelled : to_le_bytes w64 value ≡ front =
            le_bytes_8 front value (length-take-le 8 bytes many) (low_take bytes 8 low) refl in
            inl (
              value,
              8,
              record {
                may = small;
                size = refl;
                parts = sym (take-append-drop 8 bytes) ∙ ap (λ (xs : List ℕ). xs ++ drop 8 bytes) (sym spelled);
              },
            )
        | inr large ↦ inr (Shape, shape_told, large_number bytes low many large)
      ]
    ]

-- so many numbers
numbers_from : (count : ℕ) (bytes : List ℕ) → AreLow bytes → (k i at : ℕ) (xs : List ℕ) → i + k ≡ count
    → Stands (Several IsPrice no_cost i 0) in_eights bytes xs at
    → Hangs IsPrice (λ x. to_le_bytes w64 x) no_cost count 0 bytes (count - i) 0 at
    → Answers (Several IsPrice no_cost count 0) in_eights bytes
numbers_from count bytes low zero i at xs is front hangs =
    let all : i ≡ count = omega (arith, is) in
    inl (xs, at, subst (λ (n : ℕ). Stands (Several IsPrice no_cost n 0) in_eights bytes xs at) all front)
numbers_from count bytes low (suc k) i at xs is front hangs =
    let rest = drop at bytes in
    let within : i < count = omega (arith, is) in
    elim (number_answers rest (low_drop bytes at low)) [
      | inl found ↦
          numbers_from count bytes low k (i + 1) (at + found.1) (xs ++ found.0 ∷ []) (omega (arith, is))
          (numbers_stand bytes rest i at found.1 xs found.0 front refl found.2)
          (numbers_hang count bytes rest i at found.1 found.0 within hangs refl found.2)
      | inr failed ↦
          inr (failed.0, failed.1, numbers_fail count bytes rest i at failed.0 within hangs refl failed.2)
    ]

no_numbers : (bytes : List ℕ) → Stands (Several IsPrice no_cost 0 0) in_eights bytes [] 0
no_numbers bytes =
    record { may = record { number = refl; each = tt; few = omega arith }; size = refl; parts = refl }

numbers_answers : (count : ℕ) (bytes : List ℕ) → AreLow bytes
    → Answers (Several IsPrice no_cost count 0) in_eights bytes
numbers_answers count bytes low =
    let all : count ≡ count - 0 = omega arith in
    numbers_from count bytes low count 0 0 [] (omega arith) (no_numbers bytes)
    (subst (λ (k : ℕ). Hangs IsPrice (λ x. to_le_bytes w64 x) no_cost count 0 bytes k 0 0) all
    (hangs_all count 0 bytes))

counted_answers : (limit : ℕ) (bytes : List ℕ) → AreLow bytes → Answers (ArePriced limit) counted_eights bytes
counted_answers limit bytes low =
    row_answers (row_counted limit) bytes (byte_answers 0 limit bytes (omega arith))
    (λ c n stands. numbers_answers c (drop n bytes) (low_drop bytes n low))

-- so many needs
names_answers : (count : ℕ) (bytes : List ℕ) → Answers (AreNames count) (λ names. names) bytes
names_answers count bytes =
    elim (cases_Bool (list_all (λ x. nat_lt x 64) (take count bytes))) [
      | inr none ↦ inr (Shape, shape_told, names_none count bytes none)
      | inl all ↦ elim (cases_lt (length bytes) count) [
        | inl few ↦ inr (Short, short_told, names_cut count bytes all few)
        | inr many ↦
            let size : length (take count bytes) ≡ count = length-take-le count bytes many in
            inl (
              take count bytes,
              count,
              record {
                may = record { size = size; each = all };
                size = sym size;
                parts = sym (take-append-drop count bytes);
              },
            )
      ]
    ]

-- a node without its children, by its kind
branch_answers : (bytes : List ℕ) → Answers (HasKind 0) head_body bytes
branch_answers bytes =
    elim (byte_answers 1 8 bytes (omega arith)) [
      | inl found ↦ inl (
        Branch found.0,
        found.1,
        record {
          may = branch_sound found.0 found.2.may;
          size = found.2.size;
          parts = found.2.parts;
        },
      )
      | inr failed ↦ inr (failed.0, failed.1, branch_fails bytes failed.0 failed.2)
    ]

body_answers : (kind : ℕ) (bytes : List ℕ) → AreLow bytes → kind ≤ 4 → Answers (HasKind kind) head_body bytes
body_answers zero bytes low few = branch_answers bytes
body_answers (suc zero) bytes low few =
    inl (Over, 0, record { may = record { kind_is = refl; sound = refl }; size = refl; parts = refl })
body_answers (suc (suc zero)) bytes low few =
    row_answers row_hall bytes (byte_answers 0 64 bytes (omega arith)) (λ c n stands. names_answers c (drop n bytes))
body_answers (suc (suc (suc zero))) bytes low few =
    row_answers row_dual bytes (counted_answers 64 bytes low)
    (λ lambda n stands. counted_answers 32 (drop n bytes) (low_drop bytes n low))
body_answers (suc (suc (suc (suc zero)))) bytes low few =
    inl (Full, 0, record { may = record { kind_is = refl; sound = refl }; size = refl; parts = refl })
body_answers (suc (suc (suc (suc (suc k))))) bytes low few = absurd (omega (arith, few))

head_answers : (d b : ℕ) (bytes : List ℕ) → AreLow bytes → Answers (FitsAt d b) head_bytes bytes
head_answers d b bytes low =
    row_answers (row_head d b) bytes (byte_answers (least_kind d b) 4 bytes (omega (arith, least-le d b)))
    (λ kind n stands. body_answers kind (drop n bytes) (low_drop bytes n low) stands.may.high)

-- so many trees, where each is read as something
trees_from : (d n b : ℕ)
    → ((left : ℕ) (bytes : List ℕ) → AreLow bytes → Answers (One (IsFormedAt d) branches left) bytes_of bytes)
    → (bytes : List ℕ) → AreLow bytes → (k i left at : ℕ) (ts : List Tree) → i + k ≡ n
    → Stands (Several (IsFormedAt d) branches i b) (flat_map bytes_of) bytes ts at
    → Hangs (IsFormedAt d) bytes_of branches n b bytes (n - i) left at → left + sum (map branches ts) ≡ b
    → Answers (Several (IsFormedAt d) branches n b) (flat_map bytes_of) bytes
trees_from d n b each bytes low zero i left at ts is front hangs spent =
    let all : i ≡ n = omega (arith, is) in
    inl (
      ts,
      at,
      subst (λ (m : ℕ). Stands (Several (IsFormedAt d) branches m b)
          (flat_map bytes_of) bytes ts at) all front,
    )
trees_from d n b each bytes low (suc k) i left at ts is front hangs spent =
    let rest = drop at bytes in
    let within : i < n = omega (arith, is) in
    elim (each left rest (low_drop bytes at low)) [
      | inl found ↦
          let after = left - branches found.0 in
          let few : branches found.0 ≤ left = found.2.may.few in
          let paid : after + branches found.0 ≡ left = omega (arith, few) in
          trees_from d n b each bytes low k (i + 1) after (at + found.1) (ts ++ found.0 ∷ []) (omega (arith, is))
          (trees_stand d i b left at found.1 bytes rest ts found.0 front refl found.2 spent)
          (trees_hang d n b i left after at found.1 bytes rest found.0 within hangs refl found.2 paid)
          (omega (arith, sum-more branches ts found.0, spent, paid))
      | inr failed ↦
          inr (failed.0, failed.1, trees_fail d n b i left at bytes rest failed.0 within hangs refl failed.2)
    ]

no_trees : (d b : ℕ) (bytes : List ℕ) → Stands (Several (IsFormedAt d) branches 0 b) (flat_map bytes_of) bytes [] 0
no_trees d b bytes =
    record { may = record { number = refl; each = tt; few = omega arith }; size = refl; parts = refl }

trees_answers : (d n b : ℕ)
    → ((left : ℕ) (bytes : List ℕ) → AreLow bytes → Answers (One (IsFormedAt d) branches left) bytes_of bytes)
    → (bytes : List ℕ) → AreLow bytes → Answers (Several (IsFormedAt d) branches n b) (flat_map bytes_of) bytes
trees_answers d n b each bytes low =
    let all : n ≡ n - 0 = omega arith in
    trees_from d n b each bytes low n 0 b 0 [] (omega arith) (no_trees d b bytes)
    (subst (λ (k : ℕ). Hangs (IsFormedAt d) bytes_of branches n b bytes k b 0) all (hangs_all n b bytes)) (omega arith)

-- no child follows at depth 64
last_followers : (d b : ℕ) (head : NodeHead) → 64 ≤ d → FitsAt d b head → followers head ≡ 0
last_followers d b (Branch c) deep may = absurd (grind (arith, nat_tests, deep, may.formed))
last_followers d b Over deep may = refl
last_followers d b (Hall names) deep may = refl
last_followers d b (Dual lambda mu) deep may = refl
last_followers d b Full deep may = refl

-- a tree whose root has depth d, of 64 - d more depths
tree_answers : (f d b : ℕ) (bytes : List ℕ) → AreLow bytes → d + f ≡ 64
    → Answers (One (IsFormedAt d) branches b) bytes_of bytes
tree_answers zero d b bytes low deep =
    row_answers (row_tree d b) bytes (head_answers d b bytes low) (λ head n stands.
    let none = last_followers d b head (omega (arith, deep)) stands.may in
    let left = b - own_branches (head_part head) in
    subst (λ (m : ℕ). Answers (Several (IsFormedAt (d + 1)) branches m left) (flat_map bytes_of) (drop n bytes))
    (sym none)
    (inl ([], 0, no_trees (d + 1) left (drop n bytes))))
tree_answers (suc f) d b bytes low deep =
    row_answers (row_tree d b) bytes (head_answers d b bytes low) (λ head n stands.
    trees_answers (d + 1) (followers head) (b - own_branches (head_part head))
    (λ left rest below. tree_answers f (d + 1) left rest below (omega (arith, deep))) (drop n bytes)
    (low_drop bytes n low))

-- the answer of bytes
found_reads : (bytes : List ℕ) (read : Result (Tree × ℕ) TreeBytesFault)
    → Reads (One (IsFormedAt 0) branches 4096) bytes_of bytes read → (read ≡ Err Memory → ⊥) → ReadsBytes bytes read
found_reads bytes read reads told =
    elim (reads_bytes bytes read reads) [ inl memory ↦ absurd (told memory) | inr is ↦ is ]

pub bytes_answer : (bytes : List ℕ) → All (λ byte. byte < 256) bytes
    → (read : Result (Tree × ℕ) TreeBytesFault) × ReadsBytes bytes read
bytes_answer bytes all =
    elim (tree_answers 64 0 4096 bytes (low_all bytes all) (omega arith)) [
      | inl found ↦ (Ok (found.0, found.1), found_reads bytes (Ok (found.0, found.1)) found.2 (λ is. cc))
      | inr failed ↦ (Err failed.0, found_reads bytes (Err failed.0) failed.2 (λ is. failed.1.told (cc)))
    ]
  where
    low_all : (bytes : List ℕ) → All (λ byte. byte < 256) bytes → AreLow bytes
    low_all bytes all i =
        elim (cases_lt i (length bytes)) [
          | inl inside ↦ All-get_or (λ byte. byte < 256) bytes i 0 inside all
          | inr behind ↦ omega (arith, get_or_past bytes i 0 behind)
        ]
