-- What the fields of a solve job behind its head keep.
use Rattle.std.proofs.Common.{◌≡◌, ◌≤◌, ◌<◌, ◌≢◌, ℕ, ◌+◌, ◌-◌, ◌&&◌, ◌==◌, not, nat_le, nat_lt, Bool, true, false, List, [], ◌∷◌, ◌++◌, length, slice_index, drop, All, Ok, refl, sym, ◌∙◌, ap, subst, arith, append_assoc, append-nil, length-append}
use Rattle.std.specs.List.{flat_map, list_any, AllPairs}
use Rattle.std.proofs.lemmas.Bool.{and_parts, cond_both, eq-eqb, leb-true, ltb-true}
use Rattle.std.proofs.lemmas.Bool.Decides.{nat_tests}
use Rattle.std.proofs.lemmas.Grind.{flat_map-append}
use Rattle.std.proofs.lemmas.List.Elements.{All-drop, All-nil, All-push}
use Rattle.std.proofs.lemmas.List.Folds.{list_any_at}
use Rattle.std.proofs.lemmas.List.Quantifiers.{all_pairs_push}
use Rattle.bound_certificate.specs.Limits.{IsNeed}
use Rattle.bound_certificate.specs.declared.need.Need.{Need}
use Rattle.bound_certificate.specs.declared.site.Site.{Site}
use Rattle.byteorder.specs.Endian.{little_bytes, little_number}
use Rattle.byte_format.proofs.Lists.{all_left, all_right}
use Rattle.byte_format.proofs.Numbers.{bytes_2, bytes_4, fits_2, fits_4}
use Rattle.job_format.specs.Given.{site_of}
use Rattle.job_format.specs.Job.{IsLoad, IsSite, need_bytes, site_bytes, solve_head}
use Rattle.job_format.specs.Places.{behind_hop, behind_need, behind_site, has_site, is_counted, judge_solve, solve_size}
use Rattle.job_format.specs.declared.fault.JobFault.TheVariants as faults
use Rattle.job_format.specs.declared.place.Place.{Place}
use Rattle.job_format.specs.declared.place.Place.TheVariants.{Solve, SolveEnd}
use Rattle.job_format.specs.declared.place.SolveNumbers.{SolveNumbers}
use Rattle.job_format.specs.declared.place.SolveStep.{SolveStep}
use Rattle.job_format.specs.declared.place.SolveStep.TheVariants as solves
use Rattle.job_format.proofs.Fronts.{Says, SaysNeeds, SaysSites, SaysSolve, SaysStep, SaysVia}
use Rattle.job_format.proofs.Judged.{counted_few, counted_some, joined, led, one_byte, right_led}

-- a field behind a head and what stood behind it
head_more : {number : ℕ} {front more : List ℕ} → SaysSolve number front more → (field b all : List ℕ) → field ≡ b
    → more ++ b ≡ all → SaysSolve number (front ++ field) all
head_more {number} {front} {more} says field b all is same = record {
  fits = says.fits;
  parts =
      joined says.parts is ∙ append_assoc (solve_head number) more b
      ∙ ap (λ (l : List ℕ). solve_head number ++ l) same;
}

-- ten bytes are a site's
site_back : (b : List ℕ) → length b ≡ 10 → All (λ byte. byte < 256) b → b ≡ site_bytes (site_of b)
site_back (x ∷ y ∷ z ∷ w ∷ a ∷ c ∷ d ∷ e ∷ f ∷ g ∷ []) size small =
    let Small : List ℕ → Type 0 = λ l. All (λ byte. byte < 256) l in
    let first : List ℕ = x ∷ y ∷ z ∷ w ∷ [] in
    let second : List ℕ = a ∷ c ∷ d ∷ e ∷ [] in
    let third : List ℕ = f ∷ g ∷ [] in
    let rest : Small (second ++ third) = all_right (λ byte. byte < 256) first (second ++ third) small in
    joined (sym (bytes_4 first refl (all_left (λ byte. byte < 256) first (second ++ third) small)))
    (joined (sym (bytes_4 second refl (all_left (λ byte. byte < 256) second third rest)))
    (sym (bytes_2 third refl (all_right (λ byte. byte < 256) second third rest))))
site_back b size small = absurd (omega (arith, size))

site_fits : (b : List ℕ) → All (λ byte. byte < 256) b → IsSite (site_of b)
site_fits b small = record {
  capacity = fits_4 b small;
  opening = fits_4 (drop 4 b) (All-drop (λ byte. byte < 256) 4 b small);
  unit = fits_2 (drop 8 b) (All-drop (λ byte. byte < 256) 8 b small);
}

flat_push : {X : Type 0} (f : X → List ℕ) (xs : List X) (x : X) → flat_map f xs ++ f x ≡ flat_map f (xs ++ x ∷ [])
flat_push f xs x =
    ap (λ (l : List ℕ). flat_map f xs ++ l) (sym (append-nil (f x))) ∙ sym (flat_map-append f xs (x ∷ []))

-- a site more
site_push : {number nodes count left : ℕ} {front : List ℕ} → SaysSites number nodes count left front → 1 ≤ left
    → (site : Site) (field : List ℕ) → IsSite site → field ≡ site_bytes site
    → SaysSites number nodes count (left - 1) (front ++ field)
site_push {number} {nodes} {count} {left} {front} says some site field is same = record {
  some_nodes = says.some_nodes;
  few_nodes = says.few_nodes;
  sites = says.sites ++ site ∷ [];
  each = All-push IsSite says.sites site says.each is;
  size = omega (arith, says.size, some, length-append says.sites (site ∷ []));
  some = says.some;
  few = says.few;
  head =
      head_more says.head field (site_bytes site) _ same
      (ap (λ (l : List ℕ). little_bytes 2 nodes ++ ((count ∷ []) ++ l)) (flat_push site_bytes says.sites site));
}

same_left : {number nodes count left : ℕ} {front : List ℕ} (k : ℕ) → SaysSites number nodes count left front
    → left ≡ k → SaysSites number nodes count k front
same_left {number} {nodes} {count} {left} {front} k says same =
    subst (λ (n : ℕ). SaysSites number nodes count n front) same says

site_keeps : (n : SolveNumbers) (front field : List ℕ) → All (λ byte. byte < 256) field
    → SaysStep solves.Site n front → length field ≡ 10 → Says (behind_site n) (front ++ field)
site_keeps n front field small (some, says) size =
    let more : SaysSites n.job n.nodes n.sites (n.sites_left - 1) (front ++ field) =
    site_push says some (site_of field) field (site_fits field small) (site_back field size small) in
    cond_both (nat_le n.sites_left 1) (Solve solves.Needs (record n { sites_left = 0 }))
    (Solve solves.Site (record n { sites_left = n.sites_left - 1 })) (λ p. Says p (front ++ field))
    (λ is. same_left 0 more (omega (arith, some, leb-true n.sites_left 1 is)))
    (λ is. let left : 1 < n.sites_left = grind (arith, nat_tests) in (omega (arith, left), more))

-- a need more
need_push : {number nodes count left load hops : ℕ} {via front : List ℕ}
    → SaysVia number nodes count left load via hops front → hops ≡ 0 → 1 ≤ length via
    → SaysNeeds number nodes count (left - 1) front
need_push {number} {nodes} {count} {left} {load} {hops} {via} {front} says none some =
    let before : SaysNeeds number nodes count left says.begun.short = says.begun.needs in
    let need : Need = record { load = load; via = via } in
    let push = length-append before.needs (need ∷ []) in
    let bytes : List ℕ = flat_map need_bytes before.needs in
    let tail : ℕ → List ℕ = λ size. little_bytes 2 load ++ ((size ∷ []) ++ via) in
    let total : ℕ = length before.needs + left in
    record {
      short = before.short;
      sites = before.sites;
      needs = before.needs ++ need ∷ [];
      each =
          All-push (IsNeed count) before.needs need before.each
          (record {
            loaded = says.begun.loaded;
            some = some;
            few = omega (arith, says.few);
            known = says.known;
            distinct = says.distinct;
          });
      loads = All-push IsLoad before.needs need before.loads says.begun.fits;
      some = omega (arith, before.some, push, says.begun.some_left);
      few = omega (arith, before.few, push, says.begun.some_left);
      parts =
          (says.parts ∙ joined (says.begun.parts ∙ joined before.parts refl) refl)
          ∙ append_assoc (before.short ++ ((total ∷ []) ++ bytes)) (little_bytes 2 load)
          (((length via + hops) ∷ []) ++ via)
          ∙ append_assoc before.short ((total ∷ []) ++ bytes) (tail (length via + hops))
          ∙ ap (λ (size : ℕ). before.short ++ ((total ∷ []) ++ (bytes ++ tail size))) (omega (arith, none))
          ∙ ap (λ (l : List ℕ). before.short ++ ((total ∷ []) ++ l)) (flat_push need_bytes before.needs need)
          ∙ ap (λ (n : ℕ). before.short ++ ((n ∷ []) ++ flat_map need_bytes (before.needs ++ need ∷ [])))
          (omega (arith, push, says.begun.some_left));
    }

same_needs : {number nodes count left : ℕ} {front : List ℕ} (k : ℕ) → SaysNeeds number nodes count left front
    → left ≡ k → SaysNeeds number nodes count k front
same_needs {number} {nodes} {count} {left} {front} k says same =
    subst (λ (n : ℕ). SaysNeeds number nodes count n front) same says

-- behind a need
need_keeps : (n : SolveNumbers) (left : ℕ) (front : List ℕ) → n.needs_left ≡ left → 1 ≤ left
    → SaysNeeds n.job n.nodes n.sites (left - 1) front → Says (behind_need n) front
need_keeps n left front same some says =
    cond_both (nat_le n.needs_left 1) (SolveEnd (record n { needs_left = 0 }))
    (Solve solves.Load (record n { needs_left = n.needs_left - 1 })) (λ p. Says p front)
    (λ is. same_needs 0 says (omega (arith, some, same, leb-true n.needs_left 1 is)))
    (λ is. let more : 1 < n.needs_left = grind (arith, nat_tests) in
    (omega (arith, more), same_needs (n.needs_left - 1) says (omega (arith, same))))

-- a number that a via did not name
named_once : (via : List ℕ) (site : ℕ) → has_site via site ≡ false → AllPairs (λ a b. a ≢ b) via
    → AllPairs (λ a b. a ≢ b) (via ++ site ∷ [])
unfolding has_site
named_once via site new distinct =
    all_pairs_push (λ a b. a ≢ b) via site distinct
    (λ k d there same.
    let named : list_any (λ s. s == site) via ≡ true =
    list_any_at (λ s. s == site) via k d there (eq-eqb _ site same) in
    absurd (cc))

-- a number of a via more
via_push : {number nodes count left load hops : ℕ} {via front : List ℕ}
    → SaysVia number nodes count left load via hops front → 1 ≤ hops → (site : ℕ) (field : List ℕ) → field ≡ site ∷ []
    → site < count → has_site via site ≡ false
    → SaysVia number nodes count left load (via ++ site ∷ []) (hops - 1) (front ++ field)
via_push {number} {nodes} {count} {left} {load} {hops} {via} {front} says some site field is known new =
    let push = length-append via (site ∷ []) in
    record {
      short = says.short;
      begun = says.begun;
      few = omega (arith, says.few, some, push);
      known = All-push (λ s. s < count) via site says.known known;
      distinct = named_once via site new says.distinct;
      parts =
          joined says.parts is ∙ append_assoc says.short (((length via + hops) ∷ []) ++ via) (site ∷ [])
          ∙ ap (λ (size : ℕ). says.short ++ ((size ∷ []) ++ (via ++ site ∷ []))) (omega (arith, some, push));
    }

not_back : (b : Bool) → not b ≡ true → b ≡ false
not_back true is = absurd (cc)
not_back false is = refl

hop_keeps : (n : SolveNumbers) (site : ℕ) (front field : List ℕ) → SaysStep solves.Hop n front → field ≡ site ∷ []
    → (nat_lt site n.sites && not (has_site n.via site)) ≡ true → Says (behind_hop n site) (front ++ field)
hop_keeps n site front field (some, says) is right =
    let parts = and_parts (nat_lt site n.sites) (not (has_site n.via site)) right in
    let via : List ℕ = n.via ++ site ∷ [] in
    let more : SaysVia n.job n.nodes n.sites n.needs_left n.load via (n.hops_left - 1) (front ++ field) =
    via_push says some site field is (ltb-true site n.sites parts.0) (not_back _ parts.1) in
    let free : SolveNumbers = record n { load = 0; via = []; hops_left = 0 } in
    cond_both (nat_le n.hops_left 1) (behind_need free)
    (Solve solves.Hop (record n { via = via; hops_left = n.hops_left - 1 }))
    (λ p. Says p (front ++ field))
    (λ last. need_keeps free n.needs_left (front ++ field) refl more.begun.some_left
    (need_push more (omega (arith, some, leb-true n.hops_left 1 last))
    (omega (arith, length-append n.via (site ∷ [])))))
    (λ last. let left : 1 < n.hops_left = grind (arith, nat_tests) in (omega (arith, left), more))

pub solve_keeps : (step : SolveStep) (n : SolveNumbers) (t : Place) (front field : List ℕ)
    → All (λ byte. byte < 256) field → SaysStep step n front → length field ≡ solve_size step
    → judge_solve step n field ≡ Ok t → Says t (front ++ field)
solve_keeps solves.Nodes n t front field small says size ok =
    let nodes : ℕ = little_number 2 field in
    right_led (λ p. Says p (front ++ field)) (is_counted 4096 nodes) faults.Shape
    (Solve solves.Sites (record n { nodes = nodes })) t
    (λ is. (
      counted_some 4096 nodes is,
      counted_few 4096 nodes is,
      head_more says field _ _ (sym (bytes_2 field size small)) refl,
    )) ok
solve_keeps solves.Sites n t front field small (some, few, says) size ok =
    let count : ℕ = slice_index field 0 in
    right_led (λ p. Says p (front ++ field)) (is_counted 32 count) faults.Shape
    (Solve solves.Site (record n { sites = count; sites_left = count })) t
    (λ is. (
      counted_some 32 count is,
      record {
        some_nodes = some;
        few_nodes = few;
        sites = [];
        each = All-nil IsSite;
        size = omega arith;
        some = counted_some 32 count is;
        few = counted_few 32 count is;
        head = head_more says field _ _ (one_byte field size) refl;
      },
    )) ok
solve_keeps solves.Site n t front field small says size ok =
    led (λ p. Says p (front ++ field)) (behind_site n) t (site_keeps n front field small says size) ok
solve_keeps solves.Needs n t front field small says size ok =
    let count : ℕ = slice_index field 0 in
    right_led (λ p. Says p (front ++ field)) (is_counted 64 count) faults.Shape
    (Solve solves.Load (record n { needs_left = count })) t
    (λ is. (
      counted_some 64 count is,
      record {
        short = front;
        sites = says;
        needs = [];
        each = All-nil (IsNeed n.sites);
        loads = All-nil IsLoad;
        some = omega (arith, counted_some 64 count is);
        few = omega (arith, counted_few 64 count is);
        parts = joined refl (one_byte field size ∙ ap (λ (k : ℕ). k ∷ []) (omega arith));
      },
    )) ok
solve_keeps solves.Load n t front field small (some, says) size ok =
    let load : ℕ = little_number 2 field in
    right_led (λ p. Says p (front ++ field)) (nat_le 1 load) faults.Shape
    (Solve solves.Hops (record n { load = load })) t
    (λ is. record {
      short = front;
      needs = says;
      some_left = some;
      loaded = leb-true 1 load is;
      fits = fits_2 field small;
      parts = joined refl (sym (bytes_2 field size small));
    }) ok
solve_keeps solves.Hops n t front field small says size ok =
    let hops : ℕ = slice_index field 0 in
    right_led (λ p. Says p (front ++ field)) (is_counted 8 hops) faults.Shape
    (Solve solves.Hop (record n { via = []; hops_left = hops })) t
    (λ is. (
      counted_some 8 hops is,
      record {
        short = front;
        begun = says;
        few = omega (arith, counted_few 8 hops is);
        known = All-nil (λ site. site < n.sites);
        distinct = λ i j d before there. absurd (omega (arith, there));
        parts = joined refl (one_byte field size ∙ ap (λ (k : ℕ). k ∷ []) (omega arith));
      },
    )) ok
solve_keeps solves.Hop n t front field small says size ok =
    let site : ℕ = slice_index field 0 in
    right_led (λ p. Says p (front ++ field)) (nat_lt site n.sites && not (has_site n.via site)) faults.Shape
    (behind_hop n site) t (λ is. hop_keeps n site front field says (one_byte field size) is) ok
