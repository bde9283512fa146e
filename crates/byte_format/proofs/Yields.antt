-- What the fields of a format give.
use Rattle.std.proofs.Common.{◌≡◌, ◌<◌, ℕ, ◌+◌, ◌==◌, Bool, true, false, if◌then◌else◌, List, [], ◌∷◌, ◌++◌, length, Result, Ok, Err, refl, sym, subst, ◌∙◌, ap, arith, append_assoc, append-nil, length-append}
use Rattle.std.proofs.lemmas.Bool.Decides.{nat_tests}
use Rattle.byte_format.specs.Format.{Format, Reached, At, Broken, given, judged, onward, reached, yields}
use Rattle.byte_format.proofs.Formats.{TakesBytes, onward_more}

module _ {S F X : Type 0} (g : Format S F) (gives : S → List ℕ → List X) where
  -- bytes in two pieces
  pub yields-append : (now : Reached S F) (xs ys : List ℕ) → yields g gives now (xs ++ ys) ≡ yields g gives now xs
      ++ yields g gives (reached g now xs) ys
  unfolding yields reached
  yields-append now [] ys = refl
  yields-append now (x ∷ xs) ys =
      ap (λ (l : List X). given g gives now x ++ l) (yields-append (onward g now x) xs ys)
      ∙ sym (append_assoc (given g gives now x) (yields g gives (onward g now x) xs)
      (yields g gives (reached g (onward g now x) xs) ys))

  given_none : (place : S) (part : List ℕ) (b : ℕ) → length part + 1 < g.size place
      → given g gives (At place part) b ≡ []
  given_none place part b less = grind (arith, nat_tests)

  given_field : (place : S) (part : List ℕ) (b : ℕ) → length part + 1 ≡ g.size place
      → given g gives (At place part) b ≡ gives place (part ++ b ∷ [])
  given_field place part b last = grind (arith, nat_tests)

  -- bytes that don't fill a field give nothing
  pub yields-part : (place : S) (part more : List ℕ) → length part + length more < g.size place
      → yields g gives (At place part) more ≡ []
  unfolding yields
  yields-part place part [] less = refl
  yields-part place part (b ∷ more) less =
      ap (λ (l : List X). l ++ yields g gives (onward g (At place part) b) more)
      (given_none place part b (omega (arith, less)))
      ∙ ap (λ (r : Reached S F). yields g gives r more) (onward_more g place part b (omega (arith, less)))
      ∙ yields-part place (part ++ b ∷ []) more (omega (arith, less, length-append part (b ∷ [])))

  -- bytes that fill it give what it gives
  pub yields-field : (place : S) (part more : List ℕ) → 0 < length more → length part + length more ≡ g.size place
      → yields g gives (At place part) more ≡ gives place (part ++ more)
  unfolding yields
  yields-field place part [] some full = absurd (omega (arith, some))
  yields-field place part (b ∷ []) some full = append-nil (given g gives (At place part) b)
      ∙ given_field place part b (omega (arith, full))
  yields-field place part (b ∷ c ∷ more) some full =
      ap (λ (l : List X). l ++ yields g gives (onward g (At place part) b) (c ∷ more))
      (given_none place part b (omega (arith, full)))
      ∙ ap (λ (r : Reached S F). yields g gives r (c ∷ more)) (onward_more g place part b (omega (arith, full)))
      ∙ yields-field place (part ++ b ∷ []) (c ∷ more) (omega arith) (omega (arith, full, length-append part (b ∷ [])))
      ∙ ap (λ (l : List ℕ). gives place l) (append_assoc part (b ∷ []) (c ∷ more))

  -- a field gives what it gives
  pub yields-whole : TakesBytes g → (s : S) (field : List ℕ) → length field ≡ g.size s
      → yields g gives (At s []) field ≡ gives s field
  yields-whole takes s field whole =
      yields-field s [] field (omega (arith, whole, takes.some s)) (omega (arith, whole))

-- what holds of a place with what was given so far; of a fault nothing
abbrev GaveAt : {S F X : Type 0} → (S → List X → Type 0) → Reached S F → List X → Type 0
GaveAt Is (At place part) so_far = Is place so_far
GaveAt Is (Broken fault) so_far = Unit {0}

module _ {S F X : Type 0} (g : Format S F) (gives : S → List ℕ → List X) (Is : S → List X → Type 0)
    (on : (s t : S) (field : List ℕ) (so_far : List X) → Is s so_far → g.judge s field ≡ Ok t
    → Is t (so_far ++ gives s field)) where
  gave_judged : (s : S) (field : List ℕ) (so_far : List X) (r : Result S F) → g.judge s field ≡ r → Is s so_far
      → GaveAt Is (judged r) (so_far ++ gives s field)
  gave_judged s field so_far (Ok t) same is = on s t field so_far is same
  gave_judged s field so_far (Err fault) same is = tt

  gave_byte : (full : Bool) (s : S) (part : List ℕ) (b : ℕ) (so_far : List X) → Is s so_far
      → GaveAt Is (if full then judged (g.judge s (part ++ b ∷ [])) else At s (part ++ b ∷ []))
      (so_far ++ (if full then gives s (part ++ b ∷ []) else []))
  gave_byte true s part b so_far is = gave_judged s (part ++ b ∷ []) so_far (g.judge s (part ++ b ∷ [])) refl is
  gave_byte false s part b so_far is = subst (λ (l : List X). Is s l) (sym (append-nil so_far)) is

  gave_onward : (now : Reached S F) (b : ℕ) (so_far : List X) → GaveAt Is now so_far
      → GaveAt Is (onward g now b) (so_far ++ given g gives now b)
  unfolding onward
  gave_onward (Broken fault) b so_far is = tt
  gave_onward (At place part) b so_far is = gave_byte (length part + 1 == g.size place) place part b so_far is

  gave_more : (now : Reached S F) (bytes : List ℕ) (so_far : List X) → GaveAt Is now so_far
      → GaveAt Is (reached g now bytes) (so_far ++ yields g gives now bytes)
  unfolding reached yields
  gave_more now [] so_far is = subst (λ (l : List X). GaveAt Is now l) (sym (append-nil so_far)) is
  gave_more now (b ∷ bytes) so_far is =
      subst (λ (l : List X). GaveAt Is (reached g (onward g now b) bytes) l)
      (append_assoc so_far (given g gives now b) (yields g gives (onward g now b) bytes))
      (gave_more (onward g now b) bytes (so_far ++ given g gives now b) (gave_onward now b so_far is))

  -- what each field keeps of a place and of what was given holds of every place that is reached, and of all that was
  -- given on the way
  pub yields_keep : (s t : S) (part bytes : List ℕ) → Is s [] → reached g (At s []) bytes ≡ At t part
      → Is t (yields g gives (At s []) bytes)
  yields_keep s t part bytes is leads =
      subst (λ (r : Reached S F). GaveAt Is r (yields g gives (At s []) bytes)) leads (gave_more (At s []) bytes [] is)
