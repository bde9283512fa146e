-- What holds of every format: one outcome, and the same for every cutting.
use Rattle.std.proofs.Common.{◌≡◌, ◌<◌, ℕ, ◌+◌, ◌==◌, List, [], ◌∷◌, ◌++◌, length, Result, Ok, Err, refl, sym, ◌∙◌, ap, subst, arith, append_assoc, append-nil, length-append, inl, inr, All}
use Rattle.std.specs.List.{concat}
use Rattle.std.proofs.lemmas.Bool.{cases_lt, cond_both}
use Rattle.std.proofs.lemmas.Bool.Decides.{nat_tests}
use Rattle.byte_format.specs.Format.{Format, Stand, EndsInside, Breaks, Reached, At, Broken, judged, onward, reached}
use Rattle.byte_format.proofs.Lists.{all_left, all_right}

-- bytes in two pieces
pub reached-append : {S F : Type 0} (g : Format S F) (now : Reached S F) (xs ys : List ℕ)
    → reached g now (xs ++ ys) ≡ reached g (reached g now xs) ys
unfolding reached
reached-append g now [] ys = refl
reached-append g now (x ∷ xs) ys = reached-append g (onward g now x) xs ys

-- a fault stays
pub reached-broken : {S F : Type 0} (g : Format S F) (fault : F) (bytes : List ℕ)
    → reached g (Broken fault) bytes ≡ Broken fault
unfolding reached onward
reached-broken g fault [] = refl
reached-broken g fault (b ∷ bs) = reached-broken g fault bs

onward_broken : {S F : Type 0} (g : Format S F) (fault : F) (b : ℕ) → onward g (Broken fault) b ≡ Broken fault
unfolding onward
onward_broken g fault b = refl

pub onward_more : {S F : Type 0} (g : Format S F) (place : S) (part : List ℕ) (b : ℕ) → length part + 1 < g.size place
    → onward g (At place part) b ≡ At place (part ++ b ∷ [])
unfolding onward
onward_more g place part b less = grind (arith, nat_tests)

onward_last : {S F : Type 0} (g : Format S F) (place : S) (part : List ℕ) (b : ℕ) → length part + 1 ≡ g.size place
    → onward g (At place part) b ≡ judged (g.judge place (part ++ b ∷ []))
unfolding onward
onward_last g place part b last = grind (arith, nat_tests)

-- bytes that don't fill the field
pub reached-part : {S F : Type 0} (g : Format S F) (place : S) (part more : List ℕ)
    → length part + length more < g.size place → reached g (At place part) more ≡ At place (part ++ more)
unfolding reached
reached-part {S} {F} g place part [] less = ap (λ (l : List ℕ). At place l) (sym (append-nil part))
reached-part {S} {F} g place part (b ∷ more) less =
    ap (λ (r : Reached S F). reached g r more) (onward_more g place part b (omega (arith, less)))
    ∙ reached-part g place (part ++ b ∷ []) more (omega (arith, less, length-append part (b ∷ [])))
    ∙ ap (λ (l : List ℕ). At place l) (append_assoc part (b ∷ []) more)

-- bytes that fill it
pub reached-field : {S F : Type 0} (g : Format S F) (place : S) (part more : List ℕ) → 0 < length more
    → length part + length more ≡ g.size place → reached g (At place part) more ≡ judged (g.judge place (part ++ more))
unfolding reached
reached-field g place part [] some full = absurd (omega (arith, some))
reached-field {S} {F} g place part (b ∷ []) some full = onward_last g place part b (omega (arith, full))
reached-field {S} {F} g place part (b ∷ c ∷ more) some full =
    ap (λ (r : Reached S F). reached g r (c ∷ more)) (onward_more g place part b (omega (arith, full)))
    ∙ reached-field g place (part ++ b ∷ []) (c ∷ more) (omega arith) (omega (arith, full, length-append part (b ∷ [])))
    ∙ ap (λ (l : List ℕ). judged (g.judge place l)) (append_assoc part (b ∷ []) (c ∷ more))

-- every place takes at least one byte
pub record TakesBytes {S F : Type 0} (g : Format S F) : Type 0 where
  pub some : (s : S) → 0 < g.size s

-- fields that stand, and what follows
pub reached-stand : {S F : Type 0} (g : Format S F) → TakesBytes g → (s t : S) (fields : List (List ℕ)) (rest : List ℕ)
    → Stand g s fields t → reached g (At s []) (concat fields ++ rest) ≡ reached g (At t []) rest
reached-stand {S} {F} g takes s t [] rest is = ap (λ (u : S). reached g (At u []) rest) is
reached-stand {S} {F} g takes s t (f ∷ fs) rest (whole, (u, (ok, stand))) =
    ap (λ (l : List ℕ). reached g (At s []) l) (append_assoc f (concat fs) rest)
    ∙ reached-append g (At s []) f (concat fs ++ rest)
    ∙ ap (λ (r : Reached S F). reached g r (concat fs ++ rest))
    (reached-field g s [] f (omega (arith, whole, takes.some s)) (omega (arith, whole))
    ∙ ap (λ (r : Result S F). judged r) ok)
    ∙ reached-stand g takes u t fs rest stand

pub ends-reached : {S F : Type 0} (g : Format S F) → TakesBytes g → {start place : S} {bytes part : List ℕ}
    → EndsInside g start bytes place part → reached g (At start []) bytes ≡ At place part
ends-reached {S} {F} g takes {start} {place} {bytes} {part} ends =
    ap (λ (l : List ℕ). reached g (At start []) l) ends.parts
    ∙ reached-stand g takes start place ends.fields part ends.stand
    ∙ reached-part g place [] part (omega (arith, ends.short))

pub breaks-reached : {S F : Type 0} (g : Format S F) → TakesBytes g → {start : S} {bytes : List ℕ} {fault : F}
    → Breaks g start bytes fault → reached g (At start []) bytes ≡ Broken fault
breaks-reached {S} {F} g takes {start} {bytes} {fault} breaks =
    ap (λ (l : List ℕ). reached g (At start []) l) breaks.parts
    ∙ reached-stand g takes start breaks.place breaks.fields (breaks.field ++ breaks.rest) breaks.stand
    ∙ reached-append g (At breaks.place []) breaks.field breaks.rest
    ∙ ap (λ (r : Reached S F). reached g r breaks.rest)
    (reached-field g breaks.place [] breaks.field (omega (arith, breaks.whole, takes.some breaks.place))
    (omega (arith, breaks.whole)) ∙ ap (λ (r : Result S F). judged r) breaks.judged)
    ∙ reached-broken g fault breaks.rest

-- what is known where bytes lead somewhere
abbrev pub Leads : {S F : Type 0} → Format S F → S → List ℕ → Reached S F → Type 0
Leads g start bytes (At place part) = EndsInside g start bytes place part
Leads g start bytes (Broken fault) = Breaks g start bytes fault

stand-push : {S F : Type 0} (g : Format S F) (s t u : S) (fields : List (List ℕ)) (field : List ℕ) → Stand g s fields t
    → length field ≡ g.size t → g.judge t field ≡ Ok u → Stand g s (fields ++ field ∷ []) u
stand-push {S} {F} g s t u [] field is whole ok =
    subst (λ (v : S). Stand g v (field ∷ []) u) (sym is) (whole, (u, (ok, refl)))
stand-push g s t u (f ∷ fs) field (size, (v, (first, stand))) whole
    ok = (size, (v, (first, stand-push g v t u fs field stand whole ok)))

concat-push : (fields : List (List ℕ)) (field : List ℕ) → concat (fields ++ field ∷ []) ≡ concat fields ++ field
concat-push [] field = append-nil field
concat-push (f ∷ fs) field = ap (λ (l : List ℕ). f ++ l) (concat-push fs field) ∙ sym (append_assoc f (concat fs) field)

leads_on : {S F : Type 0} (g : Format S F) → TakesBytes g → (start place : S) (bytes part : List ℕ) (b : ℕ)
    → EndsInside g start bytes place part → length part + 1 ≡ g.size place
    → (r : Result S F) → g.judge place (part ++ b ∷ []) ≡ r → Leads g start (bytes ++ b ∷ []) (judged r)
leads_on g takes start place bytes part b ends last (Ok u) is = record {
  fields = ends.fields ++ (part ++ b ∷ []) ∷ [];
  stand = stand-push g start place u ends.fields (part ++ b ∷ []) ends.stand
      (omega (arith, last, length-append part (b ∷ []))) is;
  parts =
      ap (λ (l : List ℕ). l ++ b ∷ []) ends.parts
      ∙ append_assoc (concat ends.fields) part (b ∷ [])
      ∙ sym (concat-push ends.fields (part ++ b ∷ []))
      ∙ sym (append-nil (concat (ends.fields ++ (part ++ b ∷ []) ∷ [])));
  short = takes.some u;
}
leads_on g takes start place bytes part b ends last (Err fault) is = record {
  fields = ends.fields;
  place = place;
  field = part ++ b ∷ [];
  rest = [];
  stand = ends.stand;
  parts =
      ap (λ (l : List ℕ). l ++ b ∷ []) ends.parts
      ∙ append_assoc (concat ends.fields) part (b ∷ [])
      ∙ ap (λ (l : List ℕ). concat ends.fields ++ l) (sym (append-nil (part ++ b ∷ [])));
  whole = omega (arith, last, length-append part (b ∷ []));
  judged = is;
}

leads_broken : {S F : Type 0} (g : Format S F) (start : S) (bytes : List ℕ) (fault : F) (b : ℕ)
    → Breaks g start bytes fault → Breaks g start (bytes ++ b ∷ []) fault
leads_broken g start bytes fault b breaks = record {
  fields = breaks.fields;
  place = breaks.place;
  field = breaks.field;
  rest = breaks.rest ++ b ∷ [];
  stand = breaks.stand;
  parts =
      ap (λ (l : List ℕ). l ++ b ∷ []) breaks.parts
      ∙ append_assoc (concat breaks.fields) (breaks.field ++ breaks.rest) (b ∷ [])
      ∙ ap (λ (l : List ℕ). concat breaks.fields ++ l) (append_assoc breaks.field breaks.rest (b ∷ []));
  whole = breaks.whole;
  judged = breaks.judged;
}

leads_part : {S F : Type 0} (g : Format S F) (start place : S) (bytes part : List ℕ) (b : ℕ)
    → EndsInside g start bytes place part → length part + 1 < g.size place
    → EndsInside g start (bytes ++ b ∷ []) place (part ++ b ∷ [])
leads_part g start place bytes part b ends less = record {
  fields = ends.fields;
  stand = ends.stand;
  parts = ap (λ (l : List ℕ). l ++ b ∷ []) ends.parts ∙ append_assoc (concat ends.fields) part (b ∷ []);
  short = omega (arith, less, length-append part (b ∷ []));
}

leads_onward : {S F : Type 0} (g : Format S F) → TakesBytes g → (start : S) (bytes : List ℕ) (now : Reached S F) (b : ℕ)
    → Leads g start bytes now → Leads g start (bytes ++ b ∷ []) (onward g now b)
leads_onward g takes start bytes (Broken fault) b breaks =
    subst (λ r. Leads g start (bytes ++ b ∷ []) r) (sym (onward_broken g fault b))
    (leads_broken g start bytes fault b breaks)
leads_onward g takes start bytes (At place part) b ends = elim (cases_lt (length part + 1) (g.size place)) [
  | inl less ↦ subst (λ r. Leads g start (bytes ++ b ∷ []) r) (sym (onward_more g place part b less))
      (leads_part g start place bytes part b ends less)
  | inr full ↦
      let last : length part + 1 ≡ g.size place = omega (arith, full, ends.short) in
      subst (λ r. Leads g start (bytes ++ b ∷ []) r) (sym (onward_last g place part b last))
      (leads_on g takes start place bytes part b ends last (g.judge place (part ++ b ∷ [])) refl)
]

leads_more : {S F : Type 0} (g : Format S F) → TakesBytes g → (start : S) (bytes more : List ℕ) (now : Reached S F)
    → Leads g start bytes now → Leads g start (bytes ++ more) (reached g now more)
unfolding reached
leads_more g takes start bytes [] now is = subst (λ (l : List ℕ). Leads g start l now) (sym (append-nil bytes)) is
leads_more g takes start bytes (b ∷ more) now is =
    subst (λ (l : List ℕ). Leads g start l (reached g (onward g now b) more)) (append_assoc bytes (b ∷ []) more)
    (leads_more g takes start (bytes ++ b ∷ []) more (onward g now b) (leads_onward g takes start bytes now b is))

-- wherever bytes lead, they are so: fields that stand, and an end inside the next or its fault
pub leads : {S F : Type 0} (g : Format S F) → TakesBytes g → (start : S) (bytes : List ℕ)
    → Leads g start bytes (reached g (At start []) bytes)
leads g takes start bytes =
    leads_more g takes start [] bytes (At start
    []) (record { fields = []; stand = refl; parts = refl; short = takes.some start })

-- a field that stands, and what follows
pub reached-on : {S F : Type 0} (g : Format S F) → TakesBytes g → (s t : S) (field rest : List ℕ)
    → length field ≡ g.size s → g.judge s field ≡ Ok t → reached g (At s []) (field ++ rest) ≡ reached g (At t []) rest
reached-on {S} {F} g takes s t field rest whole ok =
    reached-append g (At s []) field rest
    ∙ ap (λ (r : Reached S F). reached g r rest) (reached-field g s [] field (omega (arith, whole, takes.some s))
    (omega (arith, whole)) ∙ ap (λ (r : Result S F). judged r) ok)

-- what each field that stands keeps of the bytes so far
pub record Keeps {S F : Type 0} (g : Format S F) (Says : S → List ℕ → Type 0) : Type 0 where
  pub on : (s t : S) (front field : List ℕ) → Says s front → length field ≡ g.size s → g.judge s field ≡ Ok t
      → Says t (front ++ field)

-- so holds of all fields that stand
pub stand_says : {S F : Type 0} (g : Format S F) (Says : S → List ℕ → Type 0) → Keeps g Says
    → (s t : S) (fields : List (List ℕ)) (front : List ℕ) → Stand g s fields t → Says s front
    → Says t (front ++ concat fields)
stand_says g Says keeps s t [] front is says = subst (λ u. Says u (front ++ [])) is
    (subst (λ (l : List ℕ). Says s l) (sym (append-nil front)) says)
stand_says g Says keeps s t (f ∷ fs) front (whole, (u, (ok, stand))) says =
    subst (λ (l : List ℕ). Says t l) (append_assoc front f (concat fs))
    (stand_says g Says keeps u t fs (front ++ f) stand (keeps.on s u front f says whole ok))

-- and of every place that bytes lead to
pub reached_says : {S F : Type 0} (g : Format S F) (Says : S → List ℕ → Type 0) → TakesBytes g → Keeps g Says
    → (start place : S) (bytes part : List ℕ) → Says start [] → reached g (At start []) bytes ≡ At place part
    → (front : List ℕ) × ((bytes ≡ front ++ part) × Says place front)
reached_says g Says takes keeps start place bytes part says is =
    let ends : EndsInside g start bytes place part = subst (λ r. Leads g start bytes r) is
    (leads g takes start bytes) in
    (concat ends.fields, (ends.parts, stand_says g Says keeps start place ends.fields [] ends.stand says))

-- a field that stands
pub reached-whole : {S F : Type 0} (g : Format S F) → TakesBytes g → (s t : S) (field : List ℕ)
    → length field ≡ g.size s → g.judge s field ≡ Ok t → reached g (At s []) field ≡ At t []
reached-whole {S} {F} g takes s t field whole ok =
    reached-field g s [] field (omega (arith, whole, takes.some s)) (omega (arith, whole))
    ∙ ap (λ (r : Result S F). judged r) ok

-- what each field that stands keeps of the items so far, where each item of the field is so
pub record KeepsOf {S F : Type 0} (g : Format S F) (Is : ℕ → Type 0) (Says : S → List ℕ → Type 0) : Type 0 where
  pub on : (s t : S) (front field : List ℕ) → All Is field → Says s front → length field ≡ g.size s
      → g.judge s field ≡ Ok t → Says t (front ++ field)

stand_says_of : {S F : Type 0} (g : Format S F) (Is : ℕ → Type 0) (Says : S → List ℕ → Type 0) → KeepsOf g Is Says
    → (s t : S) (fields : List (List ℕ)) (rest front : List ℕ) → All Is (concat fields ++ rest) → Stand g s fields t
    → Says s front → Says t (front ++ concat fields)
stand_says_of g Is Says keeps s t [] rest front each is says =
    subst (λ u. Says u (front ++ [])) is (subst (λ (l : List ℕ). Says s l) (sym (append-nil front)) says)
stand_says_of g Is Says keeps s t (f ∷ fs) rest front each (whole, (u, (ok, stand))) says =
    let parted : All Is (f ++ (concat fs ++ rest)) =
    subst (λ (l : List ℕ). All Is l) (append_assoc f (concat fs) rest) each in
    subst (λ (l : List ℕ). Says t l) (append_assoc front f (concat fs))
    (stand_says_of g Is Says keeps u t fs rest (front ++ f) (all_right Is f (concat fs ++ rest) parted) stand
    (keeps.on s u front f (all_left Is f (concat fs ++ rest) parted) says whole ok))

-- and of every place that such items lead to
pub reached_says_of : {S F : Type 0} (g : Format S F) (Is : ℕ → Type 0) (Says : S → List ℕ → Type 0) → TakesBytes g
    → KeepsOf g Is Says → (start place : S) (bytes part : List ℕ) → All Is bytes → Says start []
    → reached g (At start []) bytes ≡ At place part → (front : List ℕ) × ((bytes ≡ front ++ part) × Says place front)
reached_says_of g Is Says takes keeps start place bytes part each says is =
    let ends : EndsInside g start bytes place part =
    subst (λ r. Leads g start bytes r) is (leads g takes start bytes) in
    let parted : All Is (concat ends.fields ++ part) = subst (λ (l : List ℕ). All Is l) ends.parts each in
    let front = stand_says_of g Is Says keeps start place ends.fields part [] parted ends.stand says in
    (concat ends.fields, (ends.parts, front))

-- what holds of a place that is reached; of a fault nothing
abbrev KeptAt : {S F : Type 0} → (S → Type 0) → Reached S F → Type 0
KeptAt Is (At place part) = Is place
KeptAt Is (Broken fault) = Unit {0}

kept_judged : {S F : Type 0} (Is : S → Type 0) (r : Result S F) → ((t : S) → r ≡ Ok t → Is t) → KeptAt Is (judged r)
kept_judged Is (Ok t) on = on t refl
kept_judged Is (Err fault) on = tt

kept_onward : {S F : Type 0} (g : Format S F) (Is : S → Type 0)
    → ((s t : S) (field : List ℕ) → Is s → g.judge s field ≡ Ok t → Is t) → (now : Reached S F) (b : ℕ)
    → KeptAt Is now → KeptAt Is (onward g now b)
unfolding onward
kept_onward g Is on (Broken fault) b is = tt
kept_onward {S} {F} g Is on (At place part) b is =
    let full : Reached S F = judged (g.judge place (part ++ b ∷ [])) in
    cond_both (length part + 1 == g.size place) full (At place (part ++ b ∷ [])) (λ r. KeptAt Is r)
    (λ e. kept_judged Is (g.judge place (part ++ b ∷ [])) (λ t ok. on place t (part ++ b ∷ []) is ok)) (λ e. is)

kept_more : {S F : Type 0} (g : Format S F) (Is : S → Type 0)
    → ((s t : S) (field : List ℕ) → Is s → g.judge s field ≡ Ok t → Is t) → (now : Reached S F) (more : List ℕ)
    → KeptAt Is now → KeptAt Is (reached g now more)
unfolding reached
kept_more g Is on now [] is = is
kept_more g Is on now (b ∷ more) is = kept_more g Is on (onward g now b) more (kept_onward g Is on now b is)

-- what each field keeps of a place holds of every place that is reached from there
pub reached_keeps : {S F : Type 0} (g : Format S F) (Is : S → Type 0)
    → ((s t : S) (field : List ℕ) → Is s → g.judge s field ≡ Ok t → Is t) → (s t : S) (part more rest : List ℕ) → Is s
    → reached g (At s part) more ≡ At t rest → Is t
reached_keeps g Is on s t part more rest is leads =
    subst (λ r. KeptAt Is r) leads (kept_more g Is on (At s part) more is)
