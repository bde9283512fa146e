-- The room of a reader, from field to field.
use Rattle.std.proofs.Common.{◌≡◌, ◌≤◌, ℕ, ◌+◌, ◌-◌, ◌==◌, ◌&&◌, not, nat_le, nat_lt, Bool, true, false, Option, List, [], ◌∷◌, ◌++◌, length, slice_index, IfOk, if◌then◌else◌, Result, Ok, refl, sym, ◌∙◌, ap, subst, arith}
use Rattle.std.proofs.lemmas.Bool.Decides.{nat_tests}
use Rattle.std.proofs.lemmas.List.{length-map}
use Rattle.std.specs.Option.{option_to_list}
use Rattle.byteorder.specs.Endian.{little_number}
use Rattle.byte_format.specs.Keys.{key_words}
use Rattle.hash_family.specs.Limits.{is_rows, is_width}
use Rattle.job_format.specs.Given.{item_gives, need_gives, site_gives, step_need, step_site}
use Rattle.bound_certificate.specs.declared.need.Need.{Need}
use Rattle.bound_certificate.specs.declared.site.Site.{Site}
use Rattle.job_format.specs.Held.{need_of}
use Rattle.job_format.specs.declared.held_need.HeldNeed.{HeldNeed}
use Rattle.job_format.specs.declared.item.Item.{Item}
use Rattle.job_format.specs.Places.{behind_hop, behind_need, behind_number, has_site, if_right, is_counted, is_magic, kind_at, judge_head, judge_place, judge_solve, may_follow, with_frame, with_weight}
use Rattle.job_format.specs.declared.fault.JobFault.{JobFault}
use Rattle.job_format.specs.declared.fault.JobFault.TheVariants as faults
use Rattle.job_format.specs.declared.place.HeadNumbers.{HeadNumbers}
use Rattle.job_format.specs.declared.place.HeadStep.{HeadStep}
use Rattle.job_format.specs.declared.place.HeadStep.TheVariants as steps
use Rattle.job_format.specs.declared.place.Kind.{Kind}
use Rattle.job_format.specs.declared.place.Kind.TheVariants as kinds
use Rattle.job_format.specs.declared.place.Place.{Place}
use Rattle.job_format.specs.declared.place.Place.TheVariants.{Head, Count, Key, Weight, ReplayEnd, Solve, SolveEnd}
use Rattle.job_format.specs.declared.place.SolveNumbers.{SolveNumbers}
use Rattle.job_format.specs.declared.place.SolveStep.{SolveStep}
use Rattle.job_format.specs.declared.place.SolveStep.TheVariants as solves
use Rattle.job_format.specs.declared.place.Tally.{Tally}
use Rattle.child_jobs.specs.declared.reader.JobReader.{JobReader}
use Rattle.child_jobs.specs.Rooms.{Completes, HasRoom, ends_frame, head_sound, is_count, is_left, is_sketch, most_items, most_needs, most_sites, step_needs, step_sites, step_sound}

-- what holds of where a right field leads
pub right_if : (P : Place → Type 0) (test : Bool) (fault : JobFault) (to : Place) → (test ≡ true → P to)
    → IfOk (if_right test fault to) P
right_if P true fault to holds = holds refl
right_if P false fault to holds = tt

pub both : (a b : Bool) → a ≡ true → b ≡ true → (a && b) ≡ true
both a b p q = grind (arith, nat_tests)

heap_sound : (a b c : Bool) → a ≡ true → (b && c) ≡ true → (a && b && c) ≡ true
heap_sound a b c p q = grind (arith, nat_tests)

pub left_of : (a b : Bool) → (a && b) ≡ true → a ≡ true
left_of a b p = grind (arith, nat_tests)

pub right_of : (a b : Bool) → (a && b) ≡ true → b ≡ true
right_of a b p = grind (arith, nat_tests)

frame_left : (tally : Tally) (count : ℕ) → may_follow tally count ≡ true → (count == 0) ≡ false
    → is_left 4096 count ≡ true
frame_left tally count follows some = grind (arith, nat_tests)

left_on : (limit left : ℕ) → is_left limit left ≡ true → nat_le left 1 ≡ false → is_left limit (left - 1) ≡ true
left_on limit left here more = grind (arith, nat_tests)

left_fits : (limit left count : ℕ) → is_left limit left ≡ true → count ≤ limit - left → count + 1 ≤ limit
left_fits limit left count here few = grind (arith, nat_tests)

left_more : (limit left count : ℕ) → is_left limit left ≡ true → nat_le left 1 ≡ false → count ≤ limit - left
    → count + 1 ≤ limit - (left - 1)
left_more limit left count here more few = grind (arith, nat_tests)

module _ (i s n : ℕ) where
  Room : Place → Type 0
  Room q = HasRoom q false (i + 0) (s + 0) (n + 0)

  record AreNone : Type 0 where
    items : i ≡ 0
    sites : s ≡ 0
    needs : n ≡ 0

  -- at a place where nothing is held
  at_head : AreNone → (step : HeadStep) (h : HeadNumbers) → head_sound step h ≡ true → Room (Head step h)
  unfolding Room
  at_head none step h sound = record {
    sound = sound;
    few_items = omega (arith, none.items);
    few_sites = omega (arith, none.sites);
    few_needs = omega (arith, none.needs);
    whole = refl;
  }

  at_count : AreNone → (h : HeadNumbers) (tally : Tally) → is_sketch h ≡ true → Room (Count h tally)
  unfolding Room
  at_count none h tally sound = record {
    sound = sound;
    few_items = omega (arith, none.items);
    few_sites = omega (arith, none.sites);
    few_needs = omega (arith, none.needs);
    whole = refl;
  }

  at_number : AreNone → (h : HeadNumbers) (kind : Kind) → Room (behind_number h kind)
  unfolding Room
  at_number none h kinds.Replay = at_head none steps.Levels h refl
  at_number none h kinds.Solve = record {
    sound = refl;
    few_items = omega (arith, none.items);
    few_sites = omega (arith, none.sites);
    few_needs = omega (arith, none.needs);
    whole = refl;
  }

  head_if : AreNone → (test : Bool) (fault : JobFault) (step : HeadStep) (h : HeadNumbers)
      → (test ≡ true → head_sound step h ≡ true)
      → IfOk (if_right test fault (Head step h)) Room
  head_if none test fault step h sound = right_if Room test fault (Head step h) (λ yes. at_head none step h (sound yes))

  head_on : (step : HeadStep) (h : HeadNumbers) (b : List ℕ) → AreNone → head_sound step h ≡ true
      → IfOk (judge_head step h b) Room
  head_on steps.Magic h b none sound = head_if none (is_magic b) faults.Magic steps.Version h (λ yes. refl)
  head_on steps.Version h b none sound = head_if none (slice_index b 0 == 1) faults.Version steps.Kind h (λ yes. refl)
  head_on steps.Kind h b none sound =
      head_if none (nat_le (slice_index b 0) 1) faults.Shape steps.Number
      (record h { kind = kind_at (slice_index b 0) }) (λ yes. refl)
  head_on steps.Number h b none sound = at_number none (record h { job = little_number 4 b }) h.kind
  head_on steps.Levels h b none sound =
      head_if none (nat_le (slice_index b 0) 16) faults.Shape steps.Rows (record h { levels = slice_index b 0 })
      (λ yes. yes)
  head_on steps.Rows h b none sound =
      head_if none (is_rows (slice_index b 0)) faults.Shape steps.Width (record h { rows = slice_index b 0 })
      (λ yes. both (nat_le h.levels 16) (is_rows (slice_index b 0)) sound yes)
  head_on steps.Width h b none sound =
      head_if none (is_width (little_number 2 b)) faults.Shape steps.Heap (record h { width = little_number 2 b })
      (λ yes. both (nat_le h.levels 16 && is_rows h.rows) (is_width (little_number 2 b)) sound yes)
  head_on steps.Heap h b none sound =
      head_if none (nat_le 1 (little_number 2 b) && nat_le (little_number 2 b) 1024) faults.Shape steps.Seed
      (record h { heap = little_number 2 b })
      (λ yes. heap_sound (nat_le h.levels 16 && is_rows h.rows && is_width h.width) (nat_le 1 (little_number 2 b))
      (nat_le (little_number 2 b) 1024) sound yes)
  head_on steps.Seed h b none sound =
      at_count none (record h { seed = little_number 8 b }) (record { items = 0; weight = 0 }) sound

  count_on : (is_last : Bool) (h : HeadNumbers) (tally : Tally) (count : ℕ) → (count == 0) ≡ is_last → AreNone
      → is_sketch h ≡ true
      → IfOk (if is_last then Ok (ReplayEnd h tally) else if_right (may_follow tally count) faults.Shape
      (Key h (with_frame tally count) count)) Room
  unfolding Room
  count_on true h tally count is none sound = record {
    sound = sound;
    few_items = omega (arith, none.items);
    few_sites = omega (arith, none.sites);
    few_needs = omega (arith, none.needs);
    whole = refl;
  }
  count_on false h tally count is none sound = right_if Room _ _ _ (λ follows. record {
    sound = both (is_sketch h) (is_left 4096 count) sound (frame_left tally count follows is);
    few_items = omega (arith, none.items);
    few_sites = omega (arith, none.sites);
    few_needs = omega (arith, none.needs);
    whole = refl;
  })

  key_on : (h : HeadNumbers) (tally : Tally) (left : ℕ) (key : List ℕ) → HasRoom (Key h tally left) false i s n
      → Room (Weight h tally left key)
  unfolding Room
  key_on h tally left key room = record {
    sound = room.sound;
    few_items = omega (arith, room.few_items);
    few_sites = omega (arith, room.few_sites);
    few_needs = omega (arith, room.few_needs);
    whole = refl;
  }

  weight_on : (is_last : Bool) (h : HeadNumbers) (old tally : Tally) (left : ℕ) (key : List ℕ) → nat_le left 1 ≡ is_last
      → HasRoom (Weight h old left key) false i s n
      → let q : Place = if is_last then Count h tally else Key h tally (left - 1) in
      HasRoom q (is_count q) (i + 1) (s + 0) (n + 0)
  weight_on true h old tally left key is room = record {
    sound = left_of (is_sketch h) (is_left 4096 left) room.sound;
    few_items = left_fits 4096 left i (right_of (is_sketch h) (is_left 4096 left) room.sound) room.few_items;
    few_sites = omega (arith, room.few_sites);
    few_needs = omega (arith, room.few_needs);
    whole = refl;
  }
  weight_on false h old tally left key is room =
      let here : is_left 4096 left ≡ true = right_of (is_sketch h) (is_left 4096 left) room.sound in
      record {
        sound = both (is_sketch h) (is_left 4096 (left - 1)) (left_of (is_sketch h) (is_left 4096 left) room.sound)
            (left_on 4096 left here is);
        few_items = left_more 4096 left i here is room.few_items;
        few_sites = omega (arith, room.few_sites);
        few_needs = omega (arith, room.few_needs);
        whole = refl;
      }

  -- the rest of a solve job
  solve_if : (test : Bool) (fault : JobFault) (step : SolveStep) (old : SolveNumbers)
      → (test ≡ true → step_sound step old ≡ true) → i ≡ 0
      → s ≤ step_sites step old → n ≤ step_needs step old → IfOk (if_right test fault (Solve step old)) Room
  unfolding Room
  solve_if test fault step old sound items sites needs = right_if Room test fault (Solve step old) (λ yes. record {
    sound = sound yes;
    few_items = omega (arith, items);
    few_sites = omega (arith, sites);
    few_needs = omega (arith, needs);
    whole = refl;
  })

  site_on : (is_last : Bool) (old : SolveNumbers) → nat_le old.sites_left 1 ≡ is_last
      → HasRoom (Solve solves.Site old) false i s n
      → HasRoom (if is_last then Solve solves.Needs (record old { sites_left = 0 }) else Solve solves.Site
      (record old { sites_left = old.sites_left - 1 })) false (i + 0) (s + 1) (n + 0)
  site_on true old is room = record {
    sound = refl;
    few_items = omega (arith, room.few_items);
    few_sites = left_fits 32 old.sites_left s room.sound room.few_sites;
    few_needs = omega (arith, room.few_needs);
    whole = refl;
  }
  site_on false old is room = record {
    sound = left_on 32 old.sites_left room.sound is;
    few_items = omega (arith, room.few_items);
    few_sites = left_more 32 old.sites_left s room.sound is room.few_sites;
    few_needs = omega (arith, room.few_needs);
    whole = refl;
  }

  need_on : (is_last : Bool) (left : ℕ) (old new : SolveNumbers) → nat_le left 1 ≡ is_last → is_left 64 left ≡ true
      → i ≡ 0 → s ≤ 32 → n ≤ 64 - left
      → HasRoom (if is_last then SolveEnd (record new { needs_left = 0 }) else Solve solves.Load
      (record new { needs_left = left - 1 })) false (i + 0) (s + 0) (n + 1)
  need_on true left old new is here items sites needs = record {
    sound = refl;
    few_items = omega (arith, items);
    few_sites = omega (arith, sites);
    few_needs = left_fits 64 left n here needs;
    whole = refl;
  }
  need_on false left old new is here items sites needs = record {
    sound = left_on 64 left here is;
    few_items = omega (arith, items);
    few_sites = omega (arith, sites);
    few_needs = left_more 64 left n here is needs;
    whole = refl;
  }

  hop_on : (is_last : Bool) (old : SolveNumbers) (site : ℕ) → nat_le old.hops_left 1 ≡ is_last
      → HasRoom (Solve solves.Hop old) false i s n
      → HasRoom (if is_last then behind_need (record old { load = 0; via = []; hops_left = 0 }) else Solve solves.Hop
      (record old { via = old.via ++ site ∷ []; hops_left = old.hops_left - 1 })) false (i + 0) (s + 0)
      (n + length {A = Need} (if is_last then record { load = old.load; via = old.via ++ site ∷ [] } ∷ [] else []))
  hop_on true old site is room =
      need_on (nat_le old.needs_left 1) old.needs_left old (record old { load = 0; via = []; hops_left = 0 }) refl
      room.sound (omega (arith, room.few_items)) room.few_sites room.few_needs
  hop_on false old site is room = record {
    sound = room.sound;
    few_items = omega (arith, room.few_items);
    few_sites = omega (arith, room.few_sites);
    few_needs = omega (arith, room.few_needs);
    whole = refl;
  }

  step_on : (step : SolveStep) (old : SolveNumbers) (b : List ℕ) → HasRoom (Solve step old) false i s n
      → IfOk (judge_solve step old b)
      (λ q. HasRoom q false (i + 0) (s + length (step_site step b)) (n + length (step_need step old b)))
  unfolding Room
  step_on solves.Nodes old b room =
      solve_if (is_counted 4096 (little_number 2 b)) faults.Shape solves.Sites
      (record old { nodes = little_number 2 b }) (λ yes. refl)
      (omega (arith, room.few_items)) room.few_sites room.few_needs
  step_on solves.Sites old b room =
      solve_if (is_counted 32 (slice_index b 0)) faults.Shape solves.Site
      (record old { sites = slice_index b 0; sites_left = slice_index b 0 }) (λ yes. yes)
      (omega (arith, room.few_items)) (omega (arith, room.few_sites)) room.few_needs
  step_on solves.Site old b room = site_on (nat_le old.sites_left 1) old refl room
  step_on solves.Needs old b room =
      solve_if (is_counted 64 (slice_index b 0)) faults.Shape solves.Load (record old { needs_left = slice_index b 0 })
      (λ yes. yes)
      (omega (arith, room.few_items)) room.few_sites (omega (arith, room.few_needs))
  step_on solves.Load old b room =
      solve_if (nat_le 1 (little_number 2 b)) faults.Shape solves.Hops (record old { load = little_number 2 b })
      (λ yes. room.sound)
      (omega (arith, room.few_items)) room.few_sites room.few_needs
  step_on solves.Hops old b room =
      solve_if (is_counted 8 (slice_index b 0)) faults.Shape solves.Hop
      (record old { via = []; hops_left = slice_index b 0 }) (λ yes. room.sound)
      (omega (arith, room.few_items)) room.few_sites room.few_needs
  step_on solves.Hop old b room =
      right_if (λ q. HasRoom q false (i + 0) (s + 0) (n + length (step_need solves.Hop old b)))
      (nat_lt (slice_index b 0) old.sites && not (has_site old.via (slice_index b 0))) faults.Shape
      (behind_hop old (slice_index b 0))
      (λ yes. hop_on (nat_le old.hops_left 1) old (slice_index b 0) refl room)

  none_held : (p : Place) → most_items p false ≡ 0 → most_sites p ≡ 0 → most_needs p ≡ 0 → HasRoom p false i s n
      → AreNone
  none_held p items sites needs room =
      record {
        items = omega (arith, room.few_items, items);
        sites = omega (arith, room.few_sites, sites);
        needs =
            omega (arith, room.few_needs, needs);
      }

  -- behind a field, with what it gives
  room_on : (p : Place) (b : List ℕ) → HasRoom p false i s n
      → IfOk (judge_place p b)
      (λ q. HasRoom q (ends_frame p q) (i + length (item_gives p b)) (s + length (site_gives p b))
      (n + length (need_gives p b)))
  unfolding Room judge_place item_gives site_gives need_gives
  room_on (Head step h) b room = head_on step h b (none_held (Head step h) refl refl refl room) room.sound
  room_on (Count h tally) b room =
      count_on (little_number 2 b == 0) h tally (little_number 2 b) refl (none_held (Count h tally) refl refl refl room)
      room.sound
  room_on (Key h tally left) b room = right_if Room _ _ _ (λ yes. key_on h tally left (key_words b) room)
  room_on (Weight h tally left key) b room =
      right_if (λ q. HasRoom q (is_count q) (i + 1) (s + 0) (n + 0)) _ _ _
      (λ yes. weight_on (nat_le left 1) h tally (with_weight tally (little_number 4 b)) left key refl room)
  room_on (ReplayEnd h tally) b room = tt
  room_on (Solve step old) b room = step_on step old b room
  room_on (SolveEnd old) b room = tt

-- so it is where a field led
pub room_behind : (i s n : ℕ) (p q : Place) (b : List ℕ) → HasRoom p false i s n → judge_place p b ≡ Ok q
    → HasRoom q (ends_frame p q) (i + length (item_gives p b)) (s + length (site_gives p b))
    (n + length (need_gives p b))
room_behind i s n p q b room is =
    let P : Place → Type 0 =
    λ t. HasRoom t (ends_frame p t) (i + length (item_gives p b)) (s + length (site_gives p b))
    (n + length (need_gives p b)) in
    subst (λ (r : Result Place JobFault). IfOk r P) is (room_on i s n p b room)

-- of equal numbers
pub room_as : {q : Place} {e f : Bool} {i j s t n m : ℕ} → e ≡ f → i ≡ j → s ≡ t → n ≡ m → HasRoom q f j t m
    → HasRoom q e i s n
room_as {q} {e} {f} {i} {j} {s} {t} {n} {m} ended items sites needs room =
    subst (λ (x : Bool). HasRoom q x i s n) (sym ended)
    (subst (λ (x : ℕ). HasRoom q f x s n) (sym items)
    (subst (λ (x : ℕ). HasRoom q f j x n) (sym sites) (subst (λ (x : ℕ). HasRoom q f j t x) (sym needs) room)))

step_sites_few : (step : SolveStep) (n : SolveNumbers) → step_sites step n ≤ 32
step_sites_few solves.Nodes n = omega arith
step_sites_few solves.Sites n = omega arith
step_sites_few solves.Site n = omega arith
step_sites_few solves.Needs n = omega arith
step_sites_few solves.Load n = omega arith
step_sites_few solves.Hops n = omega arith
step_sites_few solves.Hop n = omega arith

step_needs_few : (step : SolveStep) (n : SolveNumbers) → step_needs step n ≤ 64
step_needs_few solves.Nodes n = omega arith
step_needs_few solves.Sites n = omega arith
step_needs_few solves.Site n = omega arith
step_needs_few solves.Needs n = omega arith
step_needs_few solves.Load n = omega arith
step_needs_few solves.Hops n = omega arith
step_needs_few solves.Hop n = omega arith

count_few : (ended : Bool) → (if ended then 4096 else 0) ≤ 4096
count_few true = omega arith
count_few false = omega arith

-- never more than there is memory for
pub items_few : (p : Place) (ended : Bool) → most_items p ended ≤ 4096
items_few (Head step h) ended = omega arith
items_few (Count h tally) ended = count_few ended
items_few (Key h tally left) ended = omega arith
items_few (Weight h tally left key) ended = omega arith
items_few (ReplayEnd h tally) ended = omega arith
items_few (Solve step n) ended = omega arith
items_few (SolveEnd n) ended = omega arith

pub sites_few : (p : Place) → most_sites p ≤ 32
sites_few (Head step h) = omega arith
sites_few (Count h tally) = omega arith
sites_few (Key h tally left) = omega arith
sites_few (Weight h tally left key) = omega arith
sites_few (ReplayEnd h tally) = omega arith
sites_few (Solve step n) = step_sites_few step n
sites_few (SolveEnd n) = omega arith

pub needs_few : (p : Place) → most_needs p ≤ 64
needs_few (Head step h) = omega arith
needs_few (Count h tally) = omega arith
needs_few (Key h tally left) = omega arith
needs_few (Weight h tally left key) = omega arith
needs_few (ReplayEnd h tally) = omega arith
needs_few (Solve step n) = step_needs_few step n
needs_few (SolveEnd n) = omega arith

-- the room of a reader that goes on at a place, with what the field before it completed
abbrev pub RoomBehind : JobReader → Place → Option Item → Option Site → Option HeldNeed → Type 0
RoomBehind r place item site need =
    HasRoom place (ends_frame r.place place) (length r.frame.items + length (option_to_list item))
    (length r.sites.items + length (option_to_list site)) (length r.needs.items + length (option_to_list need))

pub room_with : (r : JobReader) (place : Place) (item : Option Item) (site : Option Site) (need : Option HeldNeed)
    → r.ended ≡ false → (field : List ℕ) × Completes r.place place field item site need
    → RoomBehind r place item site need
room_with r place item site need open_yet (field, completes) =
    let i : ℕ = length r.frame.items in
    let s : ℕ = length r.sites.items in
    let n : ℕ = length r.needs.items in
    let before : HasRoom r.place false i s n = room_as (sym open_yet) refl refl refl r.room in
    let items : length (option_to_list item) ≡ length (item_gives r.place field) = ap length completes.as_item in
    let sites : length (option_to_list site) ≡ length (site_gives r.place field) = ap length completes.as_site in
    let needs : length (option_to_list need) ≡ length (need_gives r.place field) =
    sym (length-map (option_to_list need) need_of) ∙ ap length completes.as_need in
    room_as refl (ap (λ (k : ℕ). i + k) items) (ap (λ (k : ℕ). s + k) sites) (ap (λ (k : ℕ). n + k) needs)
    (room_behind i s n r.place place field before completes.judged)
