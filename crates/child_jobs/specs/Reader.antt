-- Which bytes a reader of a job has taken, and which items it has given out.
use Rattle.std.specs.Prelude.{◌≡◌, ◌<◌, ℕ, List, [], ◌++◌, map, take, Option, None, Some, All, if◌then◌else◌}
use Rattle.bound_certificate.specs.declared.need.Need.{Need}
use Rattle.byte_format.specs.Format.{Reached, At, Broken, judged, reached, yields}
use Rattle.job_format.specs.Given.{item_gives, items_in, need_gives, needs_in, site_gives, sites_in}
use Rattle.job_format.specs.Held.{need_of}
use Rattle.job_format.specs.Places.{job_format, job_start, judge_place}
use Rattle.job_format.specs.declared.fault.JobFault.{JobFault}
use Rattle.job_format.specs.declared.item.Item.{Item}
use Rattle.job_format.specs.declared.place.Place.{Place}
use Rattle.child_jobs.specs.Heads.{Head, head_at}
use Rattle.child_jobs.specs.declared.reader.JobReader.{JobReader}

-- at a place, with the bytes of its field that are there; or at a fault
abbrev pub state_of : Option JobFault → Place → List ℕ → Reached Place JobFault
state_of None place part = At place part
state_of (Some fault) place part = Broken fault

abbrev pub state : JobReader → Reached Place JobFault
state reader = state_of reader.stop reader.place (take reader.filled reader.held)

-- the fault at which it stopped, if it did
abbrev pub stopped : JobReader → Option JobFault
stopped reader = reader.stop

-- the head, once it is there
abbrev pub known_head : JobReader → Option Head
known_head reader = head_at reader.place

-- the items of a frame that is whole, which are lent, and of one that isn't
abbrev pub lent : JobReader → List Item
lent reader = if reader.ended then reader.frame.items else []

abbrev pub kept : JobReader → List Item
kept reader = if reader.ended then [] else reader.frame.items

-- the needs that it holds
abbrev pub needs_held : JobReader → List Need
needs_held reader = map need_of reader.needs.items

-- it has taken these bytes, each of which fits into one, and given out these items, and goes on
pub record HasTaken (reader : JobReader) (bytes : List ℕ) (given : List Item) : Type 0 where
  pub going : stopped reader ≡ None
  pub leads : state reader ≡ reached job_format (At job_start []) bytes
  pub gives : items_in bytes ≡ given ++ kept reader
  pub sites : sites_in bytes ≡ reader.sites.items
  pub needs : needs_in bytes ≡ needs_held reader
  pub fit : All (λ byte. byte < 256) bytes

-- these bytes led it on
pub record Moves (old new : JobReader) (bytes : List ℕ) : Type 0 where
  pub going : stopped new ≡ None
  pub leads : state new ≡ reached job_format (state old) bytes
  pub items : new.frame.items ≡ kept old ++ yields job_format item_gives (state old) bytes
  pub sites : new.sites.items ≡ old.sites.items ++ yields job_format site_gives (state old) bytes
  pub needs : needs_held new ≡ needs_held old ++ yields job_format need_gives (state old) bytes
  pub head : (head : Head) → known_head old ≡ Some head → known_head new ≡ Some head

-- it has taken the whole field that stands next
pub record TakesField (old new : JobReader) (field : List ℕ) : Type 0 where
  pub going : stopped new ≡ None
  pub leads : state new ≡ judged (judge_place old.place field)
  pub items : new.frame.items ≡ old.frame.items ++ item_gives old.place field
  pub sites : new.sites.items ≡ old.sites.items ++ site_gives old.place field
  pub needs : needs_held new ≡ needs_held old ++ need_gives old.place field
  pub head : (head : Head) → known_head old ≡ Some head → known_head new ≡ Some head

-- it is the same but for a frame that was lent
pub record Begins (old new : JobReader) : Type 0 where
  pub going : stopped new ≡ None
  pub leads : state new ≡ state old
  pub items : new.frame.items ≡ kept old
  pub sites : new.sites.items ≡ old.sites.items
  pub needs : needs_held new ≡ needs_held old
  pub head : known_head new ≡ known_head old
