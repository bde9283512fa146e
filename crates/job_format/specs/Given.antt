-- What a field of a job completes: an item, a site, or a need.
use Rattle.std.specs.Prelude.{ℕ, nat_le, List, [], ◌∷◌, ◌++◌, slice_index, drop, if◌then◌else◌}
use Rattle.byteorder.specs.Endian.{little_number}
use Rattle.bound_certificate.specs.declared.need.Need.{Need}
use Rattle.bound_certificate.specs.declared.site.Site.{Site}
use Rattle.byte_format.specs.Format.{At, yields}
use Rattle.job_format.specs.Places.{job_format, job_start}
use Rattle.job_format.specs.declared.item.Item.{Item}
use Rattle.job_format.specs.declared.place.Place.{Place}
use Rattle.job_format.specs.declared.place.Place.TheVariants.{Head, Count, Key, Weight, ReplayEnd, Solve, SolveEnd}
use Rattle.job_format.specs.declared.place.SolveNumbers.{SolveNumbers}
use Rattle.job_format.specs.declared.place.SolveStep.{SolveStep}
use Rattle.job_format.specs.declared.place.SolveStep.TheVariants as solves

-- a weight ends an item
unfoldable pub item_gives : Place → List ℕ → List Item
item_gives (Head step h) b = []
item_gives (Count h tally) b = []
item_gives (Key h tally left) b = []
item_gives (Weight h tally left key) b = record { key = key; weight = little_number 4 b } ∷ []
item_gives (ReplayEnd h tally) b = []
item_gives (Solve step n) b = []
item_gives (SolveEnd n) b = []

abbrev pub site_of : List ℕ → Site
site_of b = record {
  capacity = little_number 4 b;
  opening = little_number 4 (drop 4 b);
  unit = little_number 2 (drop 8 b);
}

abbrev pub step_site : SolveStep → List ℕ → List Site
step_site solves.Nodes b = []
step_site solves.Sites b = []
step_site solves.Site b = site_of b ∷ []
step_site solves.Needs b = []
step_site solves.Load b = []
step_site solves.Hops b = []
step_site solves.Hop b = []

-- ten bytes are a site
unfoldable pub site_gives : Place → List ℕ → List Site
site_gives (Head step h) b = []
site_gives (Count h tally) b = []
site_gives (Key h tally left) b = []
site_gives (Weight h tally left key) b = []
site_gives (ReplayEnd h tally) b = []
site_gives (Solve step n) b = step_site step b
site_gives (SolveEnd n) b = []

abbrev pub need_by : SolveNumbers → ℕ → List Need
need_by n site = if nat_le n.hops_left 1 then record { load = n.load; via = n.via ++ site ∷ [] } ∷ [] else []

abbrev pub step_need : SolveStep → SolveNumbers → List ℕ → List Need
step_need solves.Nodes n b = []
step_need solves.Sites n b = []
step_need solves.Site n b = []
step_need solves.Needs n b = []
step_need solves.Load n b = []
step_need solves.Hops n b = []
step_need solves.Hop n b = need_by n (slice_index b 0)

-- the last number of a via ends a need
unfoldable pub need_gives : Place → List ℕ → List Need
need_gives (Head step h) b = []
need_gives (Count h tally) b = []
need_gives (Key h tally left) b = []
need_gives (Weight h tally left key) b = []
need_gives (ReplayEnd h tally) b = []
need_gives (Solve step n) b = step_need step n b
need_gives (SolveEnd n) b = []

-- the items, sites and needs that the bytes of a job give
abbrev pub items_in : List ℕ → List Item
items_in bytes = yields job_format item_gives (At job_start []) bytes

abbrev pub sites_in : List ℕ → List Site
sites_in bytes = yields job_format site_gives (At job_start []) bytes

abbrev pub needs_in : List ℕ → List Need
needs_in bytes = yields job_format need_gives (At job_start []) bytes
