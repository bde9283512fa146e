-- What the bytes in front of a place are: the spelling of what was read there so far, within its limits.
use Rattle.std.proofs.Common.{◌≡◌, ◌<◌, ◌≤◌, ◌≢◌, ℕ, ◌+◌, ◌^◌, ◌&&◌, nat_le, true, List, [], ◌∷◌, ◌++◌, length, All}
use Rattle.std.specs.List.{flat_map, AllByRecursion, AllPairs}
use Rattle.byteorder.specs.Endian.{little_bytes}
use Rattle.bound_certificate.specs.Limits.{IsNeed}
use Rattle.bound_certificate.specs.declared.need.Need.{Need}
use Rattle.bound_certificate.specs.declared.site.Site.{Site}
use Rattle.byte_format.specs.Keys.{key_bytes}
use Rattle.flow_keys.specs.Key.{IsKey}
use Rattle.hash_family.specs.Limits.{is_rows, is_width}
use Rattle.job_format.specs.Job.{AreFrames, IsFull, IsItem, IsLoad, IsSetting, IsSite, frame_bytes, frame_limit, front_bytes, item_bytes, item_limit, need_bytes, replay_head, site_bytes, solve_head, weight_limit, weight_of}
use Rattle.job_format.specs.Read.{setting_in}
use Rattle.job_format.specs.declared.item.Item.{Item}
use Rattle.job_format.specs.declared.place.HeadNumbers.{HeadNumbers}
use Rattle.job_format.specs.declared.place.HeadStep.{HeadStep}
use Rattle.job_format.specs.declared.place.HeadStep.TheVariants as steps
use Rattle.job_format.specs.declared.place.Kind.{Kind}
use Rattle.job_format.specs.declared.place.Kind.TheVariants as kinds
use Rattle.job_format.specs.declared.place.Place.{Place}
use Rattle.job_format.specs.declared.place.Place.TheVariants.{Head, Count, Key, Weight, ReplayEnd, Solve, SolveEnd}
use Rattle.job_format.specs.declared.place.SolveNumbers.{SolveNumbers}
use Rattle.job_format.specs.declared.place.SolveStep.{SolveStep}
use Rattle.job_format.specs.declared.place.SolveStep.TheVariants as solves
use Rattle.job_format.specs.declared.place.Tally.{Tally}

-- the byte of a kind
abbrev pub kind_byte : Kind → ℕ
kind_byte kinds.Replay = 0
kind_byte kinds.Solve = 1

-- a head up to the number of a replay job
abbrev pub replay_start : ℕ → List ℕ
replay_start number = front_bytes ++ ((0 ∷ []) ++ little_bytes 4 number)

-- in front of a field of a head
abbrev pub SaysHead : HeadStep → HeadNumbers → List ℕ → Type 0
SaysHead steps.Magic h front = front ≡ []
SaysHead steps.Version h front = front ≡ 0x55 ∷ 0x4d ∷ 0x4a ∷ 0x42 ∷ []
SaysHead steps.Kind h front = front ≡ front_bytes
SaysHead steps.Number h front = front ≡ front_bytes ++ kind_byte h.kind ∷ []
SaysHead steps.Levels h front = (h.job < 2 ^ 32) × (front ≡ replay_start h.job)
SaysHead steps.Rows h front =
    (h.job < 2 ^ 32) × (nat_le h.levels 16 ≡ true) × (front ≡ replay_start h.job ++ h.levels ∷ [])
SaysHead steps.Width h front =
    (h.job < 2 ^ 32) × (nat_le h.levels 16 ≡ true) × (is_rows h.rows ≡ true)
    × (front ≡ replay_start h.job ++ h.levels ∷ h.rows ∷ [])
SaysHead steps.Heap h front =
    (h.job < 2 ^ 32) × (nat_le h.levels 16 ≡ true) × (is_rows h.rows ≡ true) × (is_width h.width ≡ true)
    × (front ≡ replay_start h.job ++ h.levels ∷ h.rows ∷ little_bytes 2 h.width)
SaysHead steps.Seed h front =
    (h.job < 2 ^ 32) × (nat_le h.levels 16 ≡ true) × (is_rows h.rows ≡ true) × (is_width h.width ≡ true)
    × ((nat_le 1 h.heap && nat_le h.heap 1024) ≡ true)
    × (front ≡ replay_start h.job ++ h.levels ∷ h.rows ∷ (little_bytes 2 h.width ++ little_bytes 2 h.heap))

-- the head of a replay job, and what stands behind it
pub record SaysReplay (h : HeadNumbers) (front more : List ℕ) : Type 0 where
  pub number : h.job < 2 ^ 32
  pub setting : IsSetting (setting_in h)
  pub parts : front ≡ replay_head h.job (setting_in h) ++ more

-- items are within their limits
pub record AreItems (items : List Item) (tally : Tally) : Type 0 where
  pub each : All IsItem items
  pub few : tally.items ≤ item_limit
  pub weight : tally.weight ≡ weight_of items
  pub light : tally.weight ≤ weight_limit

-- whole frames
pub record SaysFrames (h : HeadNumbers) (tally : Tally) (front : List ℕ) : Type 0 where
  pub frames : List (List Item)
  pub items : List Item
  pub framed : AreFrames frames items
  pub within : AreItems items tally
  pub count : tally.items ≡ length items
  pub head : SaysReplay h front (flat_map frame_bytes frames)

-- the bytes of whole frames, and of one that is begun and has so many items
abbrev pub begun_bytes : List (List Item) → List Item → ℕ → List ℕ
begun_bytes frames begun count = flat_map frame_bytes frames ++ (little_bytes 2 count ++ flat_map item_bytes begun)

-- full frames, and one that is begun
pub record SaysItems (h : HeadNumbers) (tally : Tally) (left : ℕ) (front : List ℕ) : Type 0 where
  pub frames : List (List Item)
  pub before : List Item
  pub begun : List Item
  pub all : flat_map (λ frame. frame) frames ≡ before
  pub full : AllByRecursion IsFull frames
  pub within : AreItems (before ++ begun) tally
  pub size : length begun + left ≤ frame_limit
  pub count : tally.items ≡ length before + (length begun + left)
  pub head : SaysReplay h front (begun_bytes frames begun (length begun + left))

-- the key of an item behind these
pub record SaysKey (h : HeadNumbers) (tally : Tally) (left : ℕ) (key front : List ℕ) : Type 0 where
  pub short : List ℕ
  pub items : SaysItems h tally left short
  pub some_left : 1 ≤ left
  pub is_key : IsKey key
  pub parts : front ≡ short ++ key_bytes key

-- whole frames, and a count of 0
pub record SaysClosed (h : HeadNumbers) (tally : Tally) (front : List ℕ) : Type 0 where
  pub short : List ℕ
  pub frames : SaysFrames h tally short
  pub parts : front ≡ short ++ little_bytes 2 0

-- the head of a solve job, and what stands behind it
pub record SaysSolve (number : ℕ) (front more : List ℕ) : Type 0 where
  pub fits : number < 2 ^ 32
  pub parts : front ≡ solve_head number ++ more

-- the nodes, and then sites of which so many are left
pub record SaysSites (number nodes count left : ℕ) (front : List ℕ) : Type 0 where
  pub some_nodes : 1 ≤ nodes
  pub few_nodes : nodes ≤ 4096
  pub sites : List Site
  pub each : All IsSite sites
  pub size : length sites + left ≡ count
  pub some : 1 ≤ count
  pub few : count ≤ 32
  pub head : SaysSolve number front (little_bytes 2 nodes ++ ((count ∷ []) ++ flat_map site_bytes sites))

-- all sites, and then needs of which so many are left
pub record SaysNeeds (number nodes count left : ℕ) (front : List ℕ) : Type 0 where
  pub short : List ℕ
  pub sites : SaysSites number nodes count 0 short
  pub needs : List Need
  pub each : All (IsNeed count) needs
  pub loads : All IsLoad needs
  pub some : 1 ≤ length needs + left
  pub few : length needs + left ≤ 64
  pub parts : front ≡ short ++ (((length needs + left) ∷ []) ++ flat_map need_bytes needs)

-- and the load of a need
pub record SaysLoad (number nodes count left load : ℕ) (front : List ℕ) : Type 0 where
  pub short : List ℕ
  pub needs : SaysNeeds number nodes count left short
  pub some_left : 1 ≤ left
  pub loaded : 1 ≤ load
  pub fits : load < 2 ^ 16
  pub parts : front ≡ short ++ little_bytes 2 load

-- and a via of which so many numbers are left
pub record SaysVia (number nodes count left load : ℕ) (via : List ℕ) (hops : ℕ) (front : List ℕ) : Type 0 where
  pub short : List ℕ
  pub begun : SaysLoad number nodes count left load short
  pub few : length via + hops ≤ 8
  pub known : All (λ site. site < count) via
  pub distinct : AllPairs (λ a b. a ≢ b) via
  pub parts : front ≡ short ++ (((length via + hops) ∷ []) ++ via)

-- in front of a field of a solve job
abbrev pub SaysStep : SolveStep → SolveNumbers → List ℕ → Type 0
SaysStep solves.Nodes n front = SaysSolve n.job front []
SaysStep solves.Sites n front = (1 ≤ n.nodes) × (n.nodes ≤ 4096) × SaysSolve n.job front (little_bytes 2 n.nodes)
SaysStep solves.Site n front = (1 ≤ n.sites_left) × SaysSites n.job n.nodes n.sites n.sites_left front
SaysStep solves.Needs n front = SaysSites n.job n.nodes n.sites 0 front
SaysStep solves.Load n front = (1 ≤ n.needs_left) × SaysNeeds n.job n.nodes n.sites n.needs_left front
SaysStep solves.Hops n front = SaysLoad n.job n.nodes n.sites n.needs_left n.load front
SaysStep solves.Hop n front =
    (1 ≤ n.hops_left) × SaysVia n.job n.nodes n.sites n.needs_left n.load n.via n.hops_left front

-- in front of a place
abbrev pub Says : Place → List ℕ → Type 0
Says (Head step h) front = SaysHead step h front
Says (Count h tally) front = SaysFrames h tally front
Says (Key h tally left) front = (1 ≤ left) × SaysItems h tally left front
Says (Weight h tally left key) front = SaysKey h tally left key front
Says (ReplayEnd h tally) front = SaysClosed h tally front
Says (Solve step n) front = SaysStep step n front
Says (SolveEnd n) front = SaysNeeds n.job n.nodes n.sites 0 front
