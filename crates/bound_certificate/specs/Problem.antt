-- A placement problem, as clauses see it: a list of sites and a list of needs, both by number.
use Rattle.std.specs.Prelude.{ℕ, List, [], length, slice_index_or}
use Rattle.bound_certificate.specs.declared.site.Site.{Site}
use Rattle.bound_certificate.specs.declared.need.Need.{Need}

pub record Problem : Type 0 where
  pub sites : List Site
  pub needs : List Need

-- how many sites and needs there are
abbrev pub site_count : Problem → ℕ
site_count p = length p.sites

abbrev pub need_count : Problem → ℕ
need_count p = length p.needs

-- the site of a number, and one of zeros where there is none
abbrev pub site_at : Problem → ℕ → Site
site_at p s = slice_index_or p.sites s (record { capacity = 0; opening = 0; unit = 0 })

-- the need of a number, and one without a site where there is none
abbrev pub need_at : Problem → ℕ → Need
need_at p i = slice_index_or p.needs i (record { load = 0; via = [] })

-- a site's capacity, the cost of opening it, and its cost for a unit of load
unfoldable pub capacity : Problem → ℕ → ℕ
capacity p s = (site_at p s).capacity

unfoldable pub opening : Problem → ℕ → ℕ
opening p s = (site_at p s).opening

unfoldable pub unit : Problem → ℕ → ℕ
unit p s = (site_at p s).unit

-- a need's load, and the sites that can serve it
unfoldable pub load : Problem → ℕ → ℕ
load p i = (need_at p i).load

unfoldable pub via : Problem → ℕ → List ℕ
via p i = (need_at p i).via
