-- The room that a reader of a job needs: its items, sites and needs are few at each place, and the numbers of a head
-- within their limits.
use Rattle.std.specs.Prelude.{◌≡◌, ◌≤◌, ℕ, ◌-◌, ◌&&◌, ◌||◌, not, nat_le, Bool, true, false, if◌then◌else◌, List, map, Option, Ok}
use Rattle.std.specs.Option.{option_to_list}
use Rattle.bound_certificate.specs.declared.site.Site.{Site}
use Rattle.hash_family.specs.Limits.{are_within, is_rows, is_width}
use Rattle.job_format.specs.Given.{item_gives, need_gives, site_gives}
use Rattle.job_format.specs.Held.{need_of}
use Rattle.job_format.specs.Places.{judge_place}
use Rattle.job_format.specs.declared.held_need.HeldNeed.{HeldNeed}
use Rattle.job_format.specs.declared.item.Item.{Item}
use Rattle.job_format.specs.declared.place.HeadNumbers.{HeadNumbers}
use Rattle.job_format.specs.declared.place.HeadStep.{HeadStep}
use Rattle.job_format.specs.declared.place.HeadStep.TheVariants as steps
use Rattle.job_format.specs.declared.place.Place.{Place}
use Rattle.job_format.specs.declared.place.Place.TheVariants as places
use Rattle.job_format.specs.declared.place.SolveNumbers.{SolveNumbers}
use Rattle.job_format.specs.declared.place.SolveStep.{SolveStep}
use Rattle.job_format.specs.declared.place.SolveStep.TheVariants as solves

-- behind an item, and behind a frame or before the first
abbrev pub is_weight : Place → Bool
is_weight (places.Head step h) = false
is_weight (places.Count h tally) = false
is_weight (places.Key h tally left) = false
is_weight (places.Weight h tally left key) = true
is_weight (places.ReplayEnd h tally) = false
is_weight (places.Solve step n) = false
is_weight (places.SolveEnd n) = false

abbrev pub is_count : Place → Bool
is_count (places.Head step h) = false
is_count (places.Count h tally) = true
is_count (places.Key h tally left) = false
is_count (places.Weight h tally left key) = false
is_count (places.ReplayEnd h tally) = false
is_count (places.Solve step n) = false
is_count (places.SolveEnd n) = false

-- a field that leads from one place to another ends a frame
abbrev pub ends_frame : Place → Place → Bool
ends_frame p q = is_weight p && is_count q

-- a number from 1 up to a limit is left
abbrev pub is_left : ℕ → ℕ → Bool
is_left limit left = nat_le 1 left && nat_le left limit

-- the numbers of a sketch are within their limits
abbrev pub is_sketch : HeadNumbers → Bool
is_sketch h = are_within h.levels h.rows h.width h.heap

-- those that were read are
abbrev pub head_sound : HeadStep → HeadNumbers → Bool
head_sound steps.Magic h = true
head_sound steps.Version h = true
head_sound steps.Kind h = true
head_sound steps.Number h = true
head_sound steps.Levels h = true
head_sound steps.Rows h = nat_le h.levels 16
head_sound steps.Width h = nat_le h.levels 16 && is_rows h.rows
head_sound steps.Heap h = nat_le h.levels 16 && is_rows h.rows && is_width h.width
head_sound steps.Seed h = is_sketch h

abbrev pub step_sound : SolveStep → SolveNumbers → Bool
step_sound solves.Nodes n = true
step_sound solves.Sites n = true
step_sound solves.Site n = is_left 32 n.sites_left
step_sound solves.Needs n = true
step_sound solves.Load n = is_left 64 n.needs_left
step_sound solves.Hops n = is_left 64 n.needs_left
step_sound solves.Hop n = is_left 64 n.needs_left

-- the numbers of a place are within their limits, as far as they were read
abbrev pub is_sound : Place → Bool
is_sound (places.Head step h) = head_sound step h
is_sound (places.Count h tally) = is_sketch h
is_sound (places.Key h tally left) = is_sketch h && is_left 4096 left
is_sound (places.Weight h tally left key) = is_sketch h && is_left 4096 left
is_sound (places.ReplayEnd h tally) = is_sketch h
is_sound (places.Solve step n) = step_sound step n
is_sound (places.SolveEnd n) = true

-- how many items of a frame can be there at a place, with those that are lent
abbrev pub most_items : Place → Bool → ℕ
most_items (places.Head step h) ended = 0
most_items (places.Count h tally) ended = if ended then 4096 else 0
most_items (places.Key h tally left) ended = 4096 - left
most_items (places.Weight h tally left key) ended = 4096 - left
most_items (places.ReplayEnd h tally) ended = 0
most_items (places.Solve step n) ended = 0
most_items (places.SolveEnd n) ended = 0

-- how many sites, and how many needs
abbrev pub step_sites : SolveStep → SolveNumbers → ℕ
step_sites solves.Nodes n = 0
step_sites solves.Sites n = 0
step_sites solves.Site n = 32 - n.sites_left
step_sites solves.Needs n = 32
step_sites solves.Load n = 32
step_sites solves.Hops n = 32
step_sites solves.Hop n = 32

abbrev pub most_sites : Place → ℕ
most_sites (places.Head step h) = 0
most_sites (places.Count h tally) = 0
most_sites (places.Key h tally left) = 0
most_sites (places.Weight h tally left key) = 0
most_sites (places.ReplayEnd h tally) = 0
most_sites (places.Solve step n) = step_sites step n
most_sites (places.SolveEnd n) = 32

abbrev pub step_needs : SolveStep → SolveNumbers → ℕ
step_needs solves.Nodes n = 0
step_needs solves.Sites n = 0
step_needs solves.Site n = 0
step_needs solves.Needs n = 0
step_needs solves.Load n = 64 - n.needs_left
step_needs solves.Hops n = 64 - n.needs_left
step_needs solves.Hop n = 64 - n.needs_left

abbrev pub most_needs : Place → ℕ
most_needs (places.Head step h) = 0
most_needs (places.Count h tally) = 0
most_needs (places.Key h tally left) = 0
most_needs (places.Weight h tally left key) = 0
most_needs (places.ReplayEnd h tally) = 0
most_needs (places.Solve step n) = step_needs step n
most_needs (places.SolveEnd n) = 64

-- so many items, sites and needs are there, and a frame is lent at its end alone
pub record HasRoom (place : Place) (ended : Bool) (items sites needs : ℕ) : Type 0 where
  pub sound : is_sound place ≡ true
  pub few_items : items ≤ most_items place ended
  pub few_sites : sites ≤ most_sites place
  pub few_needs : needs ≤ most_needs place
  pub whole : (not ended || is_count place) ≡ true

-- this field leads from one place to another, and completes these
pub record Completes (p q : Place) (field : List ℕ) (item : Option Item) (site : Option Site)
    (need : Option HeldNeed) : Type 0 where
  pub judged : judge_place p field ≡ Ok q
  pub as_item : option_to_list item ≡ item_gives p field
  pub as_site : option_to_list site ≡ site_gives p field
  pub as_need : map need_of (option_to_list need) ≡ need_gives p field
