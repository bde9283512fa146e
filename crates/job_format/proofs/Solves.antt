-- What the sites and needs of a solve job lead to.
use Rattle.std.proofs.Common.{◌≡◌, ◌<◌, ◌≤◌, ◌≢◌, ℕ, suc, ◌-◌, ◌&&◌, not, nat_le, nat_lt, ◌==◌, Bool, true, false, cond, List, [], ◌∷◌, ◌++◌, length, All, refl, sym, ◌∙◌, ap, subst, arith, append_assoc, length-append}
use Rattle.std.specs.List.{flat_map, AllByRecursion, AllPairs}
use Rattle.std.proofs.Math.Seq.{get_or-append_seam}
use Rattle.std.proofs.lemmas.Bool.{and_from, le-leb, lt-leb, lt-ltb, ne_eqb, not_from_false}
use Rattle.std.proofs.lemmas.List.{get_or_append_left}
use Rattle.std.proofs.lemmas.List.Elements.{recursion_from_All}
use Rattle.std.proofs.lemmas.List.Folds.{list_any_none}
use Rattle.bound_certificate.specs.Limits.{IsNeed}
use Rattle.bound_certificate.specs.declared.need.Need.{Need}
use Rattle.bound_certificate.specs.declared.site.Site.{Site}
use Rattle.byteorder.specs.Endian.{little_bytes}
use Rattle.byte_format.proofs.Numbers.{number_2, number_4}
use Rattle.job_format.specs.Given.{item_gives, need_by, need_gives, site_gives}
use Rattle.job_format.specs.Job.{IsLoad, IsSite, need_bytes, site_bytes}
use Rattle.job_format.specs.Places.{behind_hop, behind_need, behind_site, has_site, is_counted, judge_place}
use Rattle.job_format.specs.declared.fault.JobFault.TheVariants as faults
use Rattle.job_format.specs.declared.place.Place.{Place}
use Rattle.job_format.specs.declared.place.Place.TheVariants.{Solve, SolveEnd}
use Rattle.job_format.specs.declared.place.SolveNumbers.{SolveNumbers}
use Rattle.job_format.specs.declared.place.SolveStep.TheVariants as solves
use Rattle.job_format.proofs.Heads.{judged_2}
use Rattle.job_format.proofs.Walks.{Passes, Walks, chain, ending, field, giving, right, stays}

pub counted_from : (limit n : ℕ) → 1 ≤ n → n ≤ limit → is_counted limit n ≡ true
counted_from limit n some few = and_from _ _ (le-leb 1 n some) (le-leb n limit few)

-- a choice by how many are left, of which there is one more
more_left : {X : Type 0} (left : ℕ) (last more : X) → 1 ≤ left → cond (nat_le (suc left) 1) last more ≡ more
more_left {X} left last more some = ap (λ (b : Bool). cond b last more) (lt-leb (suc left) 1 (omega arith))

-- the nodes and the number of sites
pub nodes_walks : (n : SolveNumbers) (nodes : ℕ) → 1 ≤ nodes → nodes ≤ 4096
    → Passes (Solve solves.Nodes n) (little_bytes 2 nodes) (Solve solves.Sites (record n { nodes = nodes }))
unfolding judge_place item_gives site_gives need_gives
nodes_walks n nodes some few =
    field (Solve solves.Nodes n) (Solve solves.Sites (record n { nodes = nodes })) (little_bytes 2 nodes) refl
    (judged_2 (is_counted 4096) faults.Shape (λ k. Solve solves.Sites (record n { nodes = k })) nodes (omega arith)
    (counted_from 4096 nodes some few))

pub count_walks : (n : SolveNumbers) (count : ℕ) → 1 ≤ count → count ≤ 32
    → Passes (Solve solves.Sites n) (count ∷ []) (Solve solves.Site (record n { sites = count; sites_left = count }))
unfolding judge_place item_gives site_gives need_gives
count_walks n count some few =
    field (Solve solves.Sites n) (Solve solves.Site (record n { sites = count; sites_left = count })) (count ∷ []) refl
    (right (is_counted 32 count) faults.Shape _ (counted_from 32 count some few))

abbrev one_site : ℕ → ℕ → ℕ → List Site
one_site capacity opening unit = record { capacity = capacity; opening = opening; unit = unit } ∷ []

same_site : (a b c d e f : ℕ) → a ≡ d → b ≡ e → c ≡ f → one_site a b c ≡ one_site d e f
same_site a b c d e f p q r = λ x. record { capacity = p x; opening = q x; unit = r x } ∷ []

site_walks : (n : SolveNumbers) (site : Site) → IsSite site
    → Walks (Solve solves.Site n) (site_bytes site) (behind_site n) [] (site ∷ []) []
unfolding judge_place item_gives site_gives need_gives
site_walks n site is =
    giving (field (Solve solves.Site n) (behind_site n) (site_bytes site) refl refl) refl
    (same_site _ _ _ _ _ _ (number_4 site.capacity is.capacity) (number_4 site.opening is.opening)
    (number_2 site.unit is.unit)) refl

pub sites_walk : (n : SolveNumbers) (sites : List Site) (site : Site) → AllByRecursion IsSite (site ∷ sites)
    → Walks (Solve solves.Site (record n { sites_left = length (site ∷ sites) })) (flat_map site_bytes (site ∷ sites))
    (Solve solves.Needs (record n { sites_left = 0 })) [] (site ∷ sites) []
sites_walk n [] site (is, none) = chain (site_walks (record n { sites_left = 1 }) site is) (stays _)
sites_walk n (next ∷ sites) site (is, each) =
    let left : ℕ = length (next ∷ sites) in
    let last : Place = Solve solves.Needs (record n { sites_left = 0 }) in
    let more : ℕ → Place = λ k. Solve solves.Site (record n { sites_left = k }) in
    chain
    (ending (site_walks (record n { sites_left = suc left }) site is)
    (more_left left last (more (suc left - 1)) (omega arith) ∙ ap more (omega arith)))
    (sites_walk n sites next each)

pub needs_count_walks : (n : SolveNumbers) (count : ℕ) → 1 ≤ count → count ≤ 64
    → Passes (Solve solves.Needs n) (count ∷ []) (Solve solves.Load (record n { needs_left = count }))
unfolding judge_place item_gives site_gives need_gives
needs_count_walks n count some few =
    field (Solve solves.Needs n) (Solve solves.Load (record n { needs_left = count })) (count ∷ []) refl
    (right (is_counted 64 count) faults.Shape _ (counted_from 64 count some few))

-- a via names no site that it named before
unnamed : (named : List ℕ) (site : ℕ) (rest : List ℕ) → AllPairs (λ a b. a ≢ b) (named ++ site ∷ rest)
    → has_site named site ≡ false
unfolding has_site
unnamed named site rest distinct =
    list_any_none (λ s. s == site) named
    (λ k d there. ne_eqb _ site
    (λ same. distinct k (length named) d there (omega (arith, length-append named (site ∷ rest)))
    (get_or_append_left named (site ∷ rest) d k there ∙ same ∙ sym (get_or-append_seam named site rest d))))

module _ (n : SolveNumbers) where
  -- a need that is begun
  abbrev pub reading : ℕ → ℕ → List ℕ → ℕ → SolveNumbers
  reading needs load via hops = record n { needs_left = needs; load = load; via = via; hops_left = hops }

  hop_walks : (needs load : ℕ) (via : List ℕ) (hops site : ℕ) → site < n.sites → has_site via site ≡ false
      → Walks (Solve solves.Hop (reading needs load via hops)) (site ∷ [])
      (behind_hop (reading needs load via hops) site) [] [] (need_by (reading needs load via hops) site)
  unfolding judge_place item_gives site_gives need_gives
  hop_walks needs load via hops site known new =
      field (Solve solves.Hop (reading needs load via hops)) _ (site ∷ []) refl
      (right (nat_lt site n.sites && not (has_site via site)) faults.Shape _
      (and_from _ _ (lt-ltb site n.sites known) (not_from_false _ new)))

  hops_walk : (needs load : ℕ) (rest named : List ℕ) (site : ℕ) → AllByRecursion (λ s. s < n.sites) (site ∷ rest)
      → AllPairs (λ a b. a ≢ b) (named ++ site ∷ rest)
      → Walks (Solve solves.Hop (reading needs load named (length (site ∷ rest)))) (site ∷ rest)
      (behind_need (reading needs 0 [] 0)) [] [] (record { load = load; via = named ++ site ∷ rest } ∷ [])
  hops_walk needs load [] named site (known, none) distinct =
      hop_walks needs load named 1 site known (unnamed named site [] distinct)
  hops_walk needs load (next ∷ rest) named site (known, all) distinct =
      let left : ℕ = length (next ∷ rest) in
      let parts = append_assoc named (site ∷ []) (next ∷ rest) in
      let last : Place = behind_need (reading needs 0 [] 0) in
      let more : ℕ → Place = λ k. Solve solves.Hop (reading needs load (named ++ site ∷ []) k) in
      giving
      (chain
      (giving
      (ending (hop_walks needs load named (suc left) site known (unnamed named site (next ∷ rest) distinct))
      (more_left left last (more (suc left - 1)) (omega arith) ∙ ap more (omega arith))) refl refl
      (more_left left (record { load = load; via = named ++ site ∷ [] } ∷ []) [] (omega arith)))
      (hops_walk needs load rest (named ++ site ∷ []) next all
      (subst (λ (l : List ℕ). AllPairs (λ a b. a ≢ b) l) (sym parts) distinct))) refl refl
      (ap (λ (l : List ℕ). record { load = load; via = l } ∷ []) parts)

  via_walks : (needs load : ℕ) (via : List ℕ) → 1 ≤ length via → length via ≤ 8 → All (λ s. s < n.sites) via
      → AllPairs (λ a b. a ≢ b) via
      → Walks (Solve solves.Hops (reading needs load [] 0)) ((length via ∷ []) ++ via)
      (behind_need (reading needs 0 [] 0)) [] [] (record { load = load; via = via } ∷ [])
  unfolding judge_place item_gives site_gives need_gives
  via_walks needs load [] some few known distinct = absurd (omega (arith, some))
  via_walks needs load (site ∷ rest) some few known distinct =
      let hops : ℕ = length (site ∷ rest) in
      chain
      (field (Solve solves.Hops (reading needs load [] 0)) (Solve solves.Hop (reading needs load [] hops))
      (hops ∷ []) refl
      (right (is_counted 8 hops) faults.Shape _ (counted_from 8 hops some few)))
      (hops_walk needs load rest [] site (recursion_from_All (λ s. s < n.sites) (site ∷ rest) known) distinct)

  need_walks : (needs : ℕ) (need : Need) → IsNeed n.sites need → IsLoad need
      → Walks (Solve solves.Load (reading needs 0 [] 0)) (need_bytes need) (behind_need (reading needs 0 [] 0)) [] []
      (need ∷ [])
  unfolding judge_place item_gives site_gives need_gives
  need_walks needs need is fits =
      chain
      (field (Solve solves.Load (reading needs 0 [] 0)) (Solve solves.Hops (reading needs need.load [] 0))
      (little_bytes 2 need.load) refl
      (judged_2 (nat_le 1) faults.Shape (λ k. Solve solves.Hops (reading needs k [] 0)) need.load fits
      (le-leb 1 need.load is.loaded)))
      (via_walks needs need.load need.via is.some is.few is.known is.distinct)

  pub needs_walk : (needs : List Need) (need : Need) → AllByRecursion (IsNeed n.sites) (need ∷ needs)
      → AllByRecursion IsLoad (need ∷ needs)
      → Walks (Solve solves.Load (reading (length (need ∷ needs)) 0 [] 0)) (flat_map need_bytes (need ∷ needs))
      (SolveEnd (reading 0 0 [] 0)) [] [] (need ∷ needs)
  needs_walk [] need (is, none) (fits, all) = chain (need_walks 1 need is fits) (stays _)
  needs_walk (next ∷ needs) need (is, each) (fits, all) =
      let left : ℕ = length (next ∷ needs) in
      let more : ℕ → Place = λ k. Solve solves.Load (reading k 0 [] 0) in
      chain
      (ending (need_walks (suc left) need is fits)
      (more_left left (SolveEnd (reading 0 0 [] 0)) (more (suc left - 1)) (omega arith) ∙ ap more (omega arith)))
      (needs_walk needs next each all)
