-- What bytes are read as, part by part.
use Rattle.std.proofs.Common.{◌≡◌, ℕ, ◌+◌, ◌⊎◌, inl, inr, List, [], ◌++◌, length, drop, Result, Ok, Err, refl, sym, ◌∙◌, ap, ap₂, subst, arith, append_assoc, append-nil, length-append, drop-drop}
use Rattle.certificate_text.specs.Reading.{Stands, IsCut, IsNone, Fails, Reads}
use Rattle.certificate_text.specs.declared.fault.TreeBytesFault.{TreeBytesFault}
use Rattle.certificate_text.specs.declared.fault.TreeBytesFault.TheVariants.{Short, Shape, Memory}

-- bytes of which one thing is at the front have no other there
pub record Unique {X : Type 0} (May : X → Type 0) (spell : X → List ℕ) (x : X) : Type 0 where
  pub only : (y : X) (u v : List ℕ) → May x → May y → spell x ++ u ≡ spell y ++ v → (x ≡ y) × (u ≡ v)

abbrev pub Known : {X : Type 0} → (X → Type 0) → (X → List ℕ) → Type 0
Known {X} May spell = (x : X) → Unique May spell x

-- one thing and then another, which the first one has a say in
pub record Apart {X Y Z : Type 0} (P : X → Type 0) (Q : X → Y → Type 0) (join : X → Y → Z) (z : Z) : Type 0 where
  pub first : X
  pub second : Y
  pub may : P first
  pub then : Q first second
  pub is : z ≡ join first second

pub record Row {X Y Z : Type 0} (P : X → Type 0) (Q : X → Y → Type 0) (R : Z → Type 0) (f : X → List ℕ)
    (g : Y → List ℕ) (h : Z → List ℕ) (join : X → Y → Z) : Type 0 where
  pub joined : (x : X) (y : Y) → P x → Q x y → R (join x y)
  pub spelled : (x : X) (y : Y) → P x → Q x y → h (join x y) ≡ f x ++ g y
  pub apart : (z : Z) → R z → Apart P Q join z
  pub goes_on : (x : X) → P x → (y : Y) × Q x y
  pub known : Known P f

-- what stands there in two parts
pub row_stands : {X Y Z : Type 0} {P : X → Type 0} {Q : X → Y → Type 0} {R : Z → Type 0} {f : X → List ℕ}
    {g : Y → List ℕ} {h : Z → List ℕ} {join : X → Y → Z} → Row P Q R f g h join
    → (bytes : List ℕ) (x : X) (y : Y) (n m : ℕ) → Stands P f bytes x n → Stands (Q x) g (drop n bytes) y m
    → Stands R h bytes (join x y) (n + m)
row_stands {f} {g} row bytes x y n m one other =
    let spelled = row.spelled x y one.may other.may in
    record {
      may = row.joined x y one.may other.may;
      size = omega (arith, one.size, other.size, length-append (f x) (g y), ap (λ xs. length xs) spelled);
      parts =
          one.parts ∙ ap (λ xs. f x ++ xs) (other.parts ∙ ap (λ xs. g y ++ xs) (drop-drop m n bytes))
          ∙ sym (append_assoc (f x) (g y) (drop (n + m) bytes)) ∙ sym (ap (λ xs. xs ++ drop (n + m) bytes) spelled);
    }

-- a fault of the first part
pub first_fails : {X Y Z : Type 0} {P : X → Type 0} {Q : X → Y → Type 0} {R : Z → Type 0} {f : X → List ℕ}
    {g : Y → List ℕ} {h : Z → List ℕ} {join : X → Y → Z} → Row P Q R f g h join
    → (bytes : List ℕ) (fault : TreeBytesFault) → Fails P f bytes fault → Fails R h bytes fault
first_fails {f} {g} {join} row bytes Short cut =
    let next = row.goes_on cut.thing cut.may in
    record {
      thing = join cut.thing next.0;
      rest = cut.rest ++ g next.0;
      may = row.joined cut.thing next.0 cut.may next.1;
      some = omega (arith, cut.some, length-append cut.rest (g next.0));
      parts = row.spelled cut.thing next.0 cut.may next.1 ∙ ap (λ xs. xs ++ g next.0) cut.parts
          ∙ append_assoc bytes cut.rest (g next.0);
    }
first_fails {f} {g} {h} row bytes Shape none = λ z more rest may agree.
    let parts = row.apart z may in
    none parts.first more (g parts.second ++ rest) parts.may
    (agree ∙ ap (λ w. h w ++ rest) parts.is
    ∙ ap (λ xs. xs ++ rest) (row.spelled parts.first parts.second parts.may parts.then)
    ∙ append_assoc (f parts.first) (g parts.second) rest)
first_fails row bytes Memory none = tt

-- a fault of the second part
pub second_fails : {X Y Z : Type 0} {P : X → Type 0} {Q : X → Y → Type 0} {R : Z → Type 0} {f : X → List ℕ}
    {g : Y → List ℕ} {h : Z → List ℕ} {join : X → Y → Z} → Row P Q R f g h join
    → (bytes : List ℕ) (x : X) (n : ℕ) (fault : TreeBytesFault) → Stands P f bytes x n
    → Fails (Q x) g (drop n bytes) fault → Fails R h bytes fault
second_fails {f} {g} {join} row bytes x n Short one cut =
    record {
      thing = join x cut.thing;
      rest = cut.rest;
      may = row.joined x cut.thing one.may cut.may;
      some = cut.some;
      parts =
          row.spelled x cut.thing one.may cut.may ∙ ap (λ xs. f x ++ xs) cut.parts
          ∙ sym (append_assoc (f x) (drop n bytes) cut.rest)
          ∙ sym (ap (λ xs. xs ++ cut.rest) one.parts);
    }
second_fails {Q} {f} {g} {h} row bytes x n Shape one none = λ z more rest may agree.
    let parts = row.apart z may in
    let split : f x ++ (drop n bytes ++ more) ≡ f parts.first ++ (g parts.second ++ rest) =
    sym (append_assoc (f x) (drop n bytes) more) ∙ sym (ap (λ xs. xs ++ more) one.parts) ∙ agree
    ∙ ap (λ w. h w ++ rest) parts.is
    ∙ ap (λ xs. xs ++ rest) (row.spelled parts.first parts.second parts.may parts.then)
    ∙ append_assoc (f parts.first) (g parts.second) rest in
    let same = (row.known x).only parts.first (drop n bytes ++ more) (g parts.second ++ rest) one.may parts.may split in
    none parts.second more rest (subst (λ w. Q w parts.second) (sym same.0) parts.then) same.1
second_fails row bytes x n Memory one none = tt

-- the same of bytes that are the rest
pub then_stands : {X Y Z : Type 0} {P : X → Type 0} {Q : X → Y → Type 0} {R : Z → Type 0} {f : X → List ℕ}
    {g : Y → List ℕ} {h : Z → List ℕ} {join : X → Y → Z} → Row P Q R f g h join
    → (bytes rest : List ℕ) (x : X) (y : Y) (n m : ℕ) → Stands P f bytes x n → rest ≡ drop n bytes
    → Stands (Q x) g rest y m → Stands R h bytes (join x y) (n + m)
then_stands {Q} {g} row bytes rest x y n m one is other =
    row_stands row bytes x y n m one (subst (λ xs. Stands (Q x) g xs y m) is other)

pub then_fails : {X Y Z : Type 0} {P : X → Type 0} {Q : X → Y → Type 0} {R : Z → Type 0} {f : X → List ℕ}
    {g : Y → List ℕ} {h : Z → List ℕ} {join : X → Y → Z} → Row P Q R f g h join
    → (bytes rest : List ℕ) (x : X) (n : ℕ) (fault : TreeBytesFault) → Stands P f bytes x n → rest ≡ drop n bytes
    → Fails (Q x) g rest fault → Fails R h bytes fault
then_fails {Q} {g} row bytes rest x n fault one is fails =
    second_fails row bytes x n fault one (subst (λ xs. Fails (Q x) g xs fault) is fails)

-- what two unique parts make is unique
pub row_unique : {X Y Z : Type 0} {P : X → Type 0} {Q : X → Y → Type 0} {R : Z → Type 0} {f : X → List ℕ}
    {g : Y → List ℕ} {h : Z → List ℕ} {join : X → Y → Z} → Row P Q R f g h join
    → ((x : X) → P x → Known (Q x) g) → Known R h
row_unique {Q} {f} {g} {h} {join} row others z = record {
  only = λ w u v may will agree.
      let one = row.apart z may in
      let two = row.apart w will in
      let left : h z ++ u ≡ f one.first ++ (g one.second ++ u) =
      ap (λ t. h t ++ u) one.is ∙ ap (λ xs. xs ++ u) (row.spelled one.first one.second one.may one.then)
      ∙ append_assoc (f one.first) (g one.second) u in
      let right : h w ++ v ≡ f two.first ++ (g two.second ++ v) =
      ap (λ t. h t ++ v) two.is ∙ ap (λ xs. xs ++ v) (row.spelled two.first two.second two.may two.then)
      ∙ append_assoc (f two.first) (g two.second) v in
      let same = (row.known one.first).only two.first (g one.second ++ u) (g two.second ++ v) one.may two.may
      (sym left ∙ agree ∙ right) in
      let next = (others one.first one.may one.second).only two.second u v one.then
      (subst (λ x. Q x two.second) (sym same.0) two.then) same.1 in
      (one.is ∙ ap₂ join same.0 next.0 ∙ sym two.is, next.1);
}

stands_uncut : {X : Type 0} {May : X → Type 0} {spell : X → List ℕ} → Known May spell
    → (bytes : List ℕ) (x : X) (n : ℕ) → Stands May spell bytes x n → IsCut May spell bytes → ⊥
stands_uncut {spell} known bytes x n stands cut =
    let agree : spell x ++ (drop n bytes ++ cut.rest) ≡ spell cut.thing ++ [] =
    sym (append_assoc (spell x) (drop n bytes) cut.rest) ∙ sym (ap (λ xs. xs ++ cut.rest) stands.parts) ∙ sym cut.parts
    ∙ sym (append-nil (spell cut.thing)) in
    let same = (known x).only cut.thing (drop n bytes ++ cut.rest) [] stands.may cut.may agree in
    omega (arith, ap (λ xs. length xs) same.1, length-append (drop n bytes) cut.rest, cut.some)

cut_agrees : {X : Type 0} {May : X → Type 0} {spell : X → List ℕ} (bytes : List ℕ) → IsCut May spell bytes
    → IsNone May spell bytes → ⊥
cut_agrees {spell} bytes cut none =
    none cut.thing cut.rest [] cut.may (sym cut.parts ∙ sym (append-nil (spell cut.thing)))

-- where things are unique, bytes are read in one way at most
pub reads_alone : {X : Type 0} {May : X → Type 0} {spell : X → List ℕ} → Known May spell
    → (bytes : List ℕ) (one other : Result (X × ℕ) TreeBytesFault)
    → Reads May spell bytes one → Reads May spell bytes other
    → (one ≡ Err Memory) ⊎ ((other ≡ Err Memory) ⊎ (one ≡ other))
reads_alone {spell} known bytes (Ok one) (Ok other) first second =
    let same = (known one.0).only other.0 (drop one.1 bytes) (drop other.1 bytes) first.may second.may
    (sym first.parts ∙ second.parts) in
    inr (inr (ap Ok (ap₂ (λ x n. (x, n)) same.0 (first.size ∙ ap (λ x. length (spell x)) same.0 ∙ sym second.size))))
reads_alone {spell} known bytes (Ok one) (Err Short) first second =
    absurd (stands_uncut known bytes one.0 one.1 first second)
reads_alone known bytes (Ok one) (Err Shape) first second =
    absurd (second one.0 [] (drop one.1 bytes) first.may (append-nil bytes ∙ first.parts))
reads_alone known bytes (Ok one) (Err Memory) first second = inr (inl refl)
reads_alone known bytes (Err Short) (Ok other) first second =
    absurd (stands_uncut known bytes other.0 other.1 second first)
reads_alone known bytes (Err Short) (Err Short) first second = inr (inr refl)
reads_alone known bytes (Err Short) (Err Shape) first second = absurd (cut_agrees bytes first second)
reads_alone known bytes (Err Short) (Err Memory) first second = inr (inl refl)
reads_alone known bytes (Err Shape) (Ok other) first second =
    absurd (first other.0 [] (drop other.1 bytes) second.may (append-nil bytes ∙ second.parts))
reads_alone known bytes (Err Shape) (Err Short) first second = absurd (cut_agrees bytes second first)
reads_alone known bytes (Err Shape) (Err Shape) first second = inr (inr refl)
reads_alone known bytes (Err Shape) (Err Memory) first second = inr (inl refl)
reads_alone known bytes (Err Memory) other first second = inl refl
