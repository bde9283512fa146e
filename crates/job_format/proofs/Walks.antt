-- Bytes that lead from one place to another, and what they give on the way.
use Rattle.std.proofs.Common.{◌≡◌, ℕ, List, [], ◌++◌, length, Bool, true, Ok, refl, sym, ◌∙◌, ap, subst}
use Rattle.bound_certificate.specs.declared.need.Need.{Need}
use Rattle.bound_certificate.specs.declared.site.Site.{Site}
use Rattle.byte_format.specs.Format.{At, Reached, reached, yields}
use Rattle.byte_format.proofs.Formats.{reached-append, reached-whole}
use Rattle.byte_format.proofs.Yields.{yields-append, yields-whole}
use Rattle.job_format.specs.Given.{item_gives, need_gives, site_gives}
use Rattle.job_format.specs.Places.{if_right, job_format, judge_place, place_size}
use Rattle.job_format.specs.declared.fault.JobFault.{JobFault}
use Rattle.job_format.specs.declared.item.Item.{Item}
use Rattle.job_format.specs.declared.place.Place.{Place}
use Rattle.job_format.proofs.Fields.{job_takes}

pub record Walks (s : Place) (bytes : List ℕ) (t : Place) (items : List Item) (sites : List Site) (needs : List Need)
    : Type 0 where
  pub leads : reached job_format (At s []) bytes ≡ At t []
  pub gives_items : yields job_format item_gives (At s []) bytes ≡ items
  pub gives_sites : yields job_format site_gives (At s []) bytes ≡ sites
  pub gives_needs : yields job_format need_gives (At s []) bytes ≡ needs

-- and which give nothing
abbrev pub Passes : Place → List ℕ → Place → Type 0
Passes s bytes t = Walks s bytes t [] [] []

-- no bytes
pub stays : (s : Place) → Passes s [] s
unfolding reached yields
stays s = record { leads = refl; gives_items = refl; gives_sites = refl; gives_needs = refl }

-- one field that stands
pub field : (s t : Place) (bytes : List ℕ) → length bytes ≡ place_size s → judge_place s bytes ≡ Ok t
    → Walks s bytes t (item_gives s bytes) (site_gives s bytes) (need_gives s bytes)
field s t bytes whole ok = record {
  leads = reached-whole job_format job_takes s t bytes whole ok;
  gives_items = yields-whole job_format item_gives job_takes s bytes whole;
  gives_sites = yields-whole job_format site_gives job_takes s bytes whole;
  gives_needs = yields-whole job_format need_gives job_takes s bytes whole;
}

both : {X : Type 0} {a b c d : List X} → a ≡ b → c ≡ d → a ++ c ≡ b ++ d
both {X} {a} {b} {c} {d} p q = ap (λ (l : List X). l ++ c) p ∙ ap (λ (l : List X). b ++ l) q

-- bytes, and then more
pub chain : {s t u : Place} {xs ys : List ℕ} {items more_items : List Item} {sites more_sites : List Site}
    {needs more_needs : List Need} → Walks s xs t items sites needs → Walks t ys u more_items more_sites more_needs
    → Walks s (xs ++ ys) u (items ++ more_items) (sites ++ more_sites) (needs ++ more_needs)
chain {s} {t} {u} {xs} {ys} first next =
    let R : Type 0 = Reached Place JobFault in
    record {
      leads =
          reached-append job_format (At s []) xs ys ∙ ap (λ (r : R). reached job_format r ys) first.leads ∙ next.leads;
      gives_items =
          yields-append job_format item_gives (At s []) xs ys
          ∙ both first.gives_items (ap (λ (r : R). yields job_format item_gives r ys) first.leads ∙ next.gives_items);
      gives_sites =
          yields-append job_format site_gives (At s []) xs ys
          ∙ both first.gives_sites (ap (λ (r : R). yields job_format site_gives r ys) first.leads ∙ next.gives_sites);
      gives_needs =
          yields-append job_format need_gives (At s []) xs ys
          ∙ both first.gives_needs (ap (λ (r : R). yields job_format need_gives r ys) first.leads ∙ next.gives_needs);
    }

-- the same gifts under other names
pub giving : {s t : Place} {bytes : List ℕ} {items same_items : List Item} {sites same_sites : List Site}
    {needs same_needs : List Need} → Walks s bytes t items sites needs → items ≡ same_items → sites ≡ same_sites
    → needs ≡ same_needs → Walks s bytes t same_items same_sites same_needs
giving walks a b c = record {
  leads = walks.leads;
  gives_items = walks.gives_items ∙ a;
  gives_sites = walks.gives_sites ∙ b;
  gives_needs = walks.gives_needs ∙ c;
}

-- the same place under another name
pub ending : {s t u : Place} {bytes : List ℕ} {items : List Item} {sites : List Site} {needs : List Need}
    → Walks s bytes t items sites needs → t ≡ u → Walks s bytes u items sites needs
ending walks same = record {
  leads = walks.leads ∙ ap (λ (p : Place). At p []) same;
  gives_items = walks.gives_items;
  gives_sites = walks.gives_sites;
  gives_needs = walks.gives_needs;
}

-- the same bytes under another name
pub starting : {s t : Place} {xs ys : List ℕ} {items : List Item} {sites : List Site} {needs : List Need}
    → Walks s xs t items sites needs → ys ≡ xs → Walks s ys t items sites needs
starting {s} {t} {xs} {ys} {items} {sites} {needs} walks same =
    subst (λ (l : List ℕ). Walks s l t items sites needs) (sym same) walks

-- a test that is passed leads on
pub right : (test : Bool) (fault : JobFault) (place : Place) → test ≡ true → if_right test fault place ≡ Ok place
right test fault place is = ap (λ (b : Bool). if_right b fault place) is
