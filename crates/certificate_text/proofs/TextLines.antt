-- Lines of a text: it is cut into lines in one way.
use Rattle.std.proofs.Common.{◌≡◌, ℕ, ◌⊎◌, inl, inr, List, [], ◌∷◌, ◌++◌, refl, sym, ◌∙◌, append_assoc, rules}
use Rattle.std.specs.Prelude.{codes}
use Rattle.std.specs.List.{AllByRecursion, flat_map}
use Rattle.certificate_text.specs.ReadText.{head_line, IsLine, ended, lines_text, IsOther}

-- two texts that are the same have the same first line
pub same_first_line : (a b x y : List ℕ) → IsLine a → IsLine b → ended a ++ x ≡ ended b ++ y → (a ≡ b) × (x ≡ y)
same_first_line [] [] x y whole_a whole_b same = (refl, cc)
same_first_line [] (b ∷ bs) x y whole_a whole_b same = absurd (whole_b.0 (cc))
same_first_line (a ∷ cs) [] x y whole_a whole_b same = absurd (whole_a.0 (cc))
same_first_line (a ∷ cs) (b ∷ bs) x y whole_a whole_b same =
    let rest : ended cs ++ x ≡ ended bs ++ y = cc in
    let later = same_first_line cs bs x y whole_a.1 whole_b.1 rest in
    (cc, later.1)

-- one line without its line feed has none before another
pub no_line_feed : (a b y : List ℕ) → IsLine a → a ≡ ended b ++ y → ⊥
no_line_feed [] [] y whole same = cc
no_line_feed [] (b ∷ bs) y whole same = cc
no_line_feed (a ∷ cs) [] y whole same = whole.0 (cc)
no_line_feed (a ∷ cs) (b ∷ bs) y whole same = no_line_feed cs bs y whole.1 (cc)

-- the pieces of the second list are those of the first one and more, which the first rest has
pub record Extends {X : Type 0} (spell : X → List ℕ) (f g : List X) (x y : List ℕ) : Type 0 where
  pub more : List X
  pub pieces : g ≡ f ++ more
  pub rest : x ≡ flat_map spell more ++ y

-- pieces whose spellings can't begin one another
pub record IsApart {X : Type 0} (spell : X → List ℕ) (P : X → Type 0) : Type 0 where
  pub first : (a b : X) (x y : List ℕ) → P a → P b → spell a ++ x ≡ spell b ++ y → (a ≡ b) × (x ≡ y)

-- of two readings of one text, one extends the other
pub one_extends : {X : Type 0} (spell : X → List ℕ) (P : X → Type 0) → IsApart spell P → (f g : List X) (x y : List ℕ)
    → AllByRecursion P f → AllByRecursion P g
    → flat_map spell f ++ x ≡ flat_map spell g ++ y → Extends spell f g x y ⊎ Extends spell g f y x
one_extends spell P apart [] g x y each_f each_g same = inl (record { more = g; pieces = refl; rest = same })
one_extends spell P apart (a ∷ f) [] x y each_f each_g same =
    inr (record { more = a ∷ f; pieces = refl; rest = sym same })
one_extends spell P apart (a ∷ f) (b ∷ g) x y each_f each_g same =
    let here = apart.first a b (flat_map spell f ++ x) (flat_map spell g ++ y) each_f.0 each_g.0
    (sym (append_assoc (spell a) (flat_map spell f) x) ∙ same ∙ append_assoc (spell b) (flat_map spell g) y) in
    elim (one_extends spell P apart f g x y each_f.1 each_g.1 here.1) [
      | inl behind ↦ inl (record
          { more = behind.more; pieces = λ i. sym here.0 i ∷ behind.pieces i; rest = behind.rest })
      | inr behind ↦ inr (record { more = behind.more; pieces = λ i. here.0 i ∷ behind.pieces i; rest = behind.rest })
    ]

pub lines_apart : IsApart ended IsLine
lines_apart = record { first = same_first_line }

-- what stands behind lines that are passed over: no such line follows
pub record Halts (rest : List ℕ) : Type 0 where
  pub none : (line after : List ℕ) → IsOther line → rest ≡ ended line ++ after → ⊥

pub halts_last : (last : List ℕ) → IsLine last → Halts last
halts_last last whole = record { none = λ line after other same. no_line_feed last line after whole same }

pub head_is_line : IsLine head_line
head_is_line = search rules

pub end_is_line : IsLine (codes "end")
end_is_line = search rules

pub halts_head : (rest : List ℕ) → Halts (ended head_line ++ rest)
halts_head rest = record {
  none = λ line after other same. other.1 (sym (same_first_line head_line line rest after head_is_line other.0 same).0);
}

-- the lines that are passed over are the same in each reading
pub same_fronts : (f g : List (List ℕ)) (x y : List ℕ) → AllByRecursion IsOther f → AllByRecursion IsOther g → Halts x
    → Halts y
    → lines_text f ++ x ≡ lines_text g ++ y → (f ≡ g) × (x ≡ y)
same_fronts [] [] x y passed_f passed_g halts_x halts_y same = (refl, same)
same_fronts [] (b ∷ g) x y passed_f passed_g halts_x halts_y same =
    absurd (halts_x.none b (lines_text g ++ y) passed_g.0 (same ∙ append_assoc (ended b) (lines_text g) y))
same_fronts (a ∷ f) [] x y passed_f passed_g halts_x halts_y same =
    absurd (halts_y.none a (lines_text f ++ x) passed_f.0 (sym same ∙ append_assoc (ended a) (lines_text f) x))
same_fronts (a ∷ f) (b ∷ g) x y passed_f passed_g halts_x halts_y same =
    let here = same_first_line a b (lines_text f ++ x) (lines_text g ++ y) passed_f.0.0 passed_g.0.0
    (sym (append_assoc (ended a) (lines_text f) x) ∙ same ∙ append_assoc (ended b) (lines_text g) y) in
    let later = same_fronts f g x y passed_f.1 passed_g.1 halts_x halts_y here.1 in
    (λ i. here.0 i ∷ later.0 i, later.1)
