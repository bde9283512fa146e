-- Items that stand whole in a piece.
use Rattle.std.proofs.Common.{◌≡◌, ◌<◌, ◌≤◌, ℕ, ◌+◌, ◌-◌, ◌==◌, nat_le, Bool, true, false, if◌then◌else◌, List, [], ◌∷◌, ◌++◌, length, take, drop, map, None, Some, Result, Ok, refl, sym, ◌∙◌, ap, subst, arith, append-nil, take-append-drop, length-take-le, length-drop}
use Rattle.std.proofs.lemmas.Bool.Decides.{nat_tests}
use Rattle.bound_certificate.specs.declared.need.Need.{Need}
use Rattle.bound_certificate.specs.declared.site.Site.{Site}
use Rattle.byteorder.specs.Endian.{little_number}
use Rattle.byte_format.specs.Format.{At, Reached, judged, reached, yields}
use Rattle.byte_format.specs.Keys.{key_size, key_words}
use Rattle.byte_format.proofs.Formats.{reached-append, reached-field}
use Rattle.byte_format.proofs.Yields.{yields-append, yields-field}
use Rattle.flow_keys.specs.Key.{is_valid}
use Rattle.job_format.specs.Given.{item_gives, need_gives, site_gives}
use Rattle.job_format.specs.Job.{weight_limit}
use Rattle.job_format.specs.Places.{behind_item, if_right, job_format, judge_place, place_size, with_weight}
use Rattle.job_format.specs.declared.fault.JobFault.{JobFault}
use Rattle.job_format.specs.declared.fault.JobFault.TheVariants as faults
use Rattle.job_format.specs.declared.item.Item.{Item}
use Rattle.job_format.specs.declared.place.HeadNumbers.{HeadNumbers}
use Rattle.job_format.specs.declared.place.Place.{Place}
use Rattle.job_format.specs.declared.place.Place.TheVariants.{Count, Key, Weight}
use Rattle.job_format.specs.declared.place.Tally.{Tally}
use Rattle.job_format.specs.Held.{need_of}
use Rattle.job_format.specs.Read.{setting_in}
use Rattle.job_format.specs.Rooms.{has_room}
use Rattle.job_format.specs.declared.held_need.HeldNeed.{HeldNeed}
use Rattle.child_jobs.specs.Heads.{ReplayHead, head_at}
use Rattle.child_jobs.specs.Reader.{Moves, kept, needs_held, state, stopped}
use Rattle.child_jobs.specs.Rooms.{HasRoom, is_left, is_sketch}
use Rattle.child_jobs.specs.declared.reader.JobReader.{JobReader}
use Rattle.child_jobs.proofs.Rooms.{both, left_of, right_of, room_as}
use Rattle.child_jobs.specs.Items.{IsItemBehind, ReadsItems, place_in_frame}
use Rattle.child_jobs.proofs.Moves.{both_give, kept_all, none_yet, state_start, reached-nil, take-add, yields-nil}

-- no byte
pub reads_none : (p : Place) (items : List Item) → ReadsItems p p [] items items
reads_none p items = record {
  leads = reached-nil (At p []);
  items = none_yet item_gives (At p []) items;
  sites = yields-nil site_gives (At p []);
  needs = yields-nil need_gives (At p []);
}

-- bytes in two pieces
none_give : {X : Type 0} (gives : Place → List ℕ → List X) (p q : Place) (xs ys : List ℕ)
    → reached job_format (At p []) xs ≡ At q [] → yields job_format gives (At p []) xs ≡ []
    → yields job_format gives (At q []) ys ≡ [] → yields job_format gives (At p []) (xs ++ ys) ≡ []
none_give {X} gives p q xs ys leads first second =
    yields-append job_format gives (At p []) xs ys
    ∙ ap (λ (l : List X). l ++ yields job_format gives (reached job_format (At p []) xs) ys) first
    ∙ ap (λ (r : Reached Place JobFault). yields job_format gives r ys) leads
    ∙ second

pub reads_both : (p q r : Place) (xs ys : List ℕ) (before middle after : List Item) → ReadsItems p q xs before middle
    → ReadsItems q r ys middle after → ReadsItems p r (xs ++ ys) before after
reads_both p q r xs ys before middle after first second = record {
  leads =
      reached-append job_format (At p []) xs ys
      ∙ ap (λ (t : Reached Place JobFault). reached job_format t ys) first.leads
      ∙ second.leads;
  items =
      both_give item_gives (At p []) (At q []) xs ys before middle after (sym first.leads) first.items second.items;
  sites = none_give site_gives p q xs ys first.leads first.sites second.sites;
  needs = none_give need_gives p q xs ys first.leads first.needs second.needs;
}

-- a field that is right
reads_field : (p q : Place) (field : List ℕ) (items : List Item) → 0 < length field → length field ≡ place_size p
    → judge_place p field ≡ Ok q → site_gives p field ≡ [] → need_gives p field ≡ []
    → ReadsItems p q field items (items ++ item_gives p field)
reads_field p q field items some whole right sites needs = record {
  leads =
      reached-field job_format p [] field some (omega (arith, whole)) ∙ ap (λ (r : Result Place JobFault). judged r) right;
  items = ap (λ (l : List Item). items ++ l) (sym (yields-field job_format item_gives p [] field some (omega (arith, whole))));
  sites = yields-field job_format site_gives p [] field some (omega (arith, whole)) ∙ sites;
  needs = yields-field job_format need_gives p [] field some (omega (arith, whole)) ∙ needs;
}

module _ (h : HeadNumbers) (items_so_far before left : ℕ) where
  abbrev tally : Tally
  tally = record { items = items_so_far; weight = before }

  key_right : (b : List ℕ) → is_valid (key_words b) ≡ true
      → judge_place (Key h tally left) b ≡ Ok (Weight h tally left (key_words b))
  unfolding judge_place
  key_right b valid = ap (λ (t : Bool). if_right t faults.Shape (Weight h tally left (key_words b))) valid

  behind_frame : (weight : ℕ) → behind_item h (with_weight tally weight) left
      ≡ place_in_frame h items_so_far (before + weight) (left - 1)
  behind_frame weight = grind (arith, nat_tests)

  weight_right : (key b : List ℕ) → before + little_number 4 b ≤ weight_limit
      → judge_place (Weight h tally left key) b
      ≡ Ok (place_in_frame h items_so_far (before + little_number 4 b) (left - 1))
  unfolding judge_place
  weight_right key b light =
      let fits : nat_le (before + little_number 4 b) weight_limit ≡ true = grind (arith, nat_tests) in
      ap (λ (t : Bool). if_right t faults.Shape (behind_item h (with_weight tally (little_number 4 b)) left)) fits
      ∙ ap (λ (p : Place). Ok p) (behind_frame (little_number 4 b))

  reads_key : (b : List ℕ) (items : List Item) → length b ≡ key_size → is_valid (key_words b) ≡ true
      → ReadsItems (Key h tally left) (Weight h tally left (key_words b)) b items items
  unfolding item_gives site_gives need_gives
  reads_key b items whole valid =
      subst (λ (l : List Item). ReadsItems (Key h tally left) (Weight h tally left (key_words b)) b items l)
      (append-nil items)
      (reads_field (Key h tally left) (Weight h tally left (key_words b)) b items (omega (arith, whole)) whole
      (key_right b valid) refl refl)

  reads_weight : (key b : List ℕ) (items : List Item) → length b ≡ 4
      → before + little_number 4 b ≤ weight_limit
      → ReadsItems (Weight h tally left key) (place_in_frame h items_so_far (before + little_number 4 b) (left - 1)) b
      items (items ++ record { key = key; weight = little_number 4 b } ∷ [])
  unfolding item_gives site_gives need_gives
  reads_weight key b items whole light =
      reads_field (Weight h tally left key) _ b items (omega (arith, whole)) whole (weight_right key b light) refl refl

  -- a key and the weight behind it
  pub reads_item : (b : List ℕ) (item : Item) (items : List Item) → length b ≡ 48 → IsItemBehind before b item
      → ReadsItems (Key h tally left) (place_in_frame h items_so_far (before + item.weight) (left - 1)) b items
      (items ++ item ∷ [])
  reads_item b item items whole is =
      let key : List ℕ = take key_size b in
      let weight : List ℕ = drop key_size b in
      let item_is : record { key = key_words key; weight = little_number 4 weight } ≡ item =
      ap (λ (k : List ℕ). record { key = k; weight = little_number 4 weight }) (sym is.key)
      ∙ ap (λ (w : ℕ). record { key = item.key; weight = w }) (sym is.weight) in
      let light : before + little_number 4 weight ≤ weight_limit = omega (arith, is.light, is.weight) in
      let both : ReadsItems (Key h tally left) (place_in_frame h items_so_far (before + little_number 4 weight) (left - 1))
      (key ++ weight) items (items ++ record { key = key_words key; weight = little_number 4 weight } ∷ []) =
      reads_both (Key h tally left) (Weight h tally left (key_words key)) _ key weight items items _
      (reads_key key items (omega (arith, whole, length-take-le key_size b (omega (arith, whole)))) is.valid)
      (reads_weight (key_words key) weight items (omega (arith, whole, length-drop key_size b)) light) in
      subst (λ (l : List ℕ). ReadsItems (Key h tally left) (place_in_frame h items_so_far (before + item.weight) (left - 1)) l
      items (items ++ item ∷ [])) (take-append-drop key_size b)
      (subst (λ (i : Item). ReadsItems (Key h tally left) (place_in_frame h items_so_far (before + item.weight) (left - 1))
      (key ++ weight) items (items ++ i ∷ [])) item_is
      (subst (λ (w : ℕ). ReadsItems (Key h tally left) (place_in_frame h items_so_far (before + w) (left - 1))
      (key ++ weight) items (items ++ record { key = key_words key; weight = little_number 4 weight } ∷ []))
      (sym is.weight) both))

  at_key : 0 < left → place_in_frame h items_so_far before left ≡ Key h tally left
  at_key some = grind (arith, nat_tests)

  -- one item more of a piece
  pub reads_next : (from : Place) (piece : List ℕ) (taken : ℕ) (item : Item) (first so_far : List Item) → 0 < left
      → taken + 48 ≤ length piece
      → ReadsItems from (place_in_frame h items_so_far before left) (take taken piece) first so_far
      → IsItemBehind before (take 48 (drop taken piece)) item
      → ReadsItems from (place_in_frame h items_so_far (before + item.weight) (left - 1)) (take (taken + 48) piece) first
      (so_far ++ item ∷ [])
  reads_next from piece taken item first so_far some fits reads is =
      let next : List ℕ = take 48 (drop taken piece) in
      let whole : length next ≡ 48 =
      length-take-le 48 (drop taken piece) (omega (arith, fits, length-drop taken piece)) in
      subst (λ (l : List ℕ). ReadsItems from (place_in_frame h items_so_far (before + item.weight) (left - 1)) l first
      (so_far ++ item ∷ [])) (sym (take-add taken 48 piece))
      (reads_both from (place_in_frame h items_so_far before left) _ (take taken piece) next first so_far _ reads
      (subst (λ (p : Place). ReadsItems p (place_in_frame h items_so_far (before + item.weight) (left - 1)) next so_far
      (so_far ++ item ∷ [])) (sym (at_key some)) (reads_item next item so_far whole is)))

frame_fits : (before left i j : ℕ) → is_left 4096 before ≡ true → i ≤ 4096 - before → j + left ≡ i + before → j ≤ 4096
frame_fits before left i j here few same = grind (arith, nat_tests)

frame_more : (before left i j : ℕ) → is_left 4096 before ≡ true → i ≤ 4096 - before → j + left ≡ i + before
    → j ≤ 4096 - left
frame_more before left i j here few same = grind (arith, nat_tests)

left_there : (before left i j : ℕ) → is_left 4096 before ≡ true → i ≤ 4096 - before → j + left ≡ i + before
    → (left == 0) ≡ false → is_left 4096 left ≡ true
left_there before left i j here few same more = grind (arith, nat_tests)

left_some : (left : ℕ) → is_left 4096 left ≡ true → 0 < left
left_some left here = grind (arith, nat_tests)

rest_some : (rest : ℕ) → 0 < rest → (rest == 0) ≡ false
rest_some rest some = grind (arith, nat_tests)

-- at a place in a frame, whether it is whole or not
module _ (h : HeadNumbers) (tally : Tally) (left : ℕ) where
  abbrev in_frame : Bool → Place
  in_frame is_last = if is_last then Count h tally else Key h tally left

  via_there : (is_last : Bool) → has_room (in_frame is_last) ≡ true
  via_there true = refl
  via_there false = refl

  some_there : (is_last : Bool) → 0 < place_size (in_frame is_last)
  some_there true = omega arith
  some_there false = omega arith

  few_there : (is_last : Bool) → place_size (in_frame is_last) ≤ 44
  few_there true = omega arith
  few_there false = omega arith

  head_there : (is_last : Bool) → head_at (in_frame is_last) ≡ Some (ReplayHead h.job (setting_in h))
  head_there true = refl
  head_there false = refl

  room_there : (is_last : Bool) (old : Tally) (before i s n j : ℕ) → (left == 0) ≡ is_last
      → HasRoom (Key h old before) false i s n → j + left ≡ i + before → HasRoom (in_frame is_last) is_last j s n
  room_there true old before i s n j is room same =
      let here : is_left 4096 before ≡ true = right_of (is_sketch h) (is_left 4096 before) room.sound in
      record {
        sound = left_of (is_sketch h) (is_left 4096 before) room.sound;
        few_items = frame_fits before left i j here room.few_items same;
        few_sites = omega (arith, room.few_sites);
        few_needs = omega (arith, room.few_needs);
        whole = refl;
      }
  room_there false old before i s n j is room same =
      let here : is_left 4096 before ≡ true = right_of (is_sketch h) (is_left 4096 before) room.sound in
      record {
        sound = both (is_sketch h) (is_left 4096 left) (left_of (is_sketch h) (is_left 4096 before) room.sound)
            (left_there before left i j here room.few_items same is);
        few_items = frame_more before left i j here room.few_items same;
        few_sites = omega (arith, room.few_sites);
        few_needs = omega (arith, room.few_needs);
        whole = refl;
      }

-- a reader that stands at the key of an item
module _ (old : JobReader) (h : HeadNumbers) (tally : Tally) (left : ℕ) (open_yet : old.ended ≡ false)
    (is : old.place ≡ Key h tally left) where
  room_at : HasRoom (Key h tally left) false (length old.frame.items) (length old.sites.items) (length old.needs.items)
  room_at =
      subst (λ (p : Place). HasRoom p false (length old.frame.items) (length old.sites.items) (length old.needs.items)) is
      (room_as (sym open_yet) refl refl refl old.room)

  pub some_left : 0 < left
  some_left = left_some left (right_of (is_sketch h) (is_left 4096 left) room_at.sound)

  -- and behind items of the frame
  module _ (weight rest j : ℕ) (same : j + rest ≡ length old.frame.items + left) where
    abbrev there : Place
    there = place_in_frame h tally.items weight rest

    pub room_in_frame : HasRoom there (rest == 0) j (length old.sites.items) (length old.needs.items)
    room_in_frame =
        room_there h (record { items = tally.items; weight = weight }) rest (rest == 0) tally left
        (length old.frame.items) (length old.sites.items) (length old.needs.items) j refl room_at same

  pub via_in_frame : (weight rest : ℕ) → has_room (place_in_frame h tally.items weight rest) ≡ true
  via_in_frame weight rest = via_there h (record { items = tally.items; weight = weight }) rest (rest == 0)

  pub some_in_frame : (weight rest : ℕ) → 0 < place_size (place_in_frame h tally.items weight rest)
  some_in_frame weight rest = some_there h (record { items = tally.items; weight = weight }) rest (rest == 0)

  pub few_in_frame : (weight rest : ℕ) → place_size (place_in_frame h tally.items weight rest) ≤ 44
  few_in_frame weight rest = few_there h (record { items = tally.items; weight = weight }) rest (rest == 0)

  -- no byte is no item
  pub none_read : (weight rest taken : ℕ) (piece : List ℕ) (new : List Item) → taken ≡ 0
      → ReadsItems (place_in_frame h tally.items tally.weight left) (place_in_frame h tally.items weight rest)
      (take taken piece) old.frame.items new → length new + rest ≡ length old.frame.items + left
      → (rest == 0) ≡ false
  none_read weight rest taken piece new none reads same =
      let from : Place = place_in_frame h tally.items tally.weight left in
      let no_more : new ≡ old.frame.items =
      reads.items
      ∙ ap (λ (n : ℕ). old.frame.items ++ yields job_format item_gives (At from []) (take n piece)) none
      ∙ sym (none_yet item_gives (At from []) old.frame.items) in
      rest_some rest (omega (arith, same, ap length no_more, some_left))

  -- what it read led it on
  pub frame_moves : (new : JobReader) (weight rest : ℕ) (bytes : List ℕ) → stopped old ≡ None → old.filled ≡ 0
      → new.stop ≡ old.stop → new.filled ≡ 0 → new.place ≡ place_in_frame h tally.items weight rest
      → new.sites.items ≡ old.sites.items → new.needs.items ≡ old.needs.items
      → ReadsItems (place_in_frame h tally.items tally.weight left) (place_in_frame h tally.items weight rest) bytes
      old.frame.items new.frame.items
      → Moves old new bytes
  frame_moves new weight rest bytes going start stop filled goes sites needs all =
      let from : Place = Key h tally left in
      let to : Place = place_in_frame h tally.items weight rest in
      let reads : ReadsItems from to bytes old.frame.items new.frame.items =
      subst (λ (p : Place). ReadsItems p to bytes old.frame.items new.frame.items)
      (at_key h tally.items tally.weight left some_left) all in
      let before : state old ≡ At from [] = state_start old from going is start in
      record {
        going = stop ∙ going;
        leads =
            state_start new to (stop ∙ going) goes filled
            ∙ sym reads.leads
            ∙ ap (λ (r : Reached Place JobFault). reached job_format r bytes) (sym before);
        items =
            reads.items
            ∙ ap (λ (l : List Item). l ++ yields job_format item_gives (At from []) bytes) (sym (kept_all old open_yet))
            ∙ ap (λ (r : Reached Place JobFault). kept old ++ yields job_format item_gives r bytes) (sym before);
        sites =
            sites
            ∙ sym (append-nil old.sites.items)
            ∙ ap (λ (l : List Site). old.sites.items ++ l) (sym reads.sites)
            ∙ ap (λ (r : Reached Place JobFault). old.sites.items ++ yields job_format site_gives r bytes) (sym before);
        needs =
            ap (λ (l : List HeldNeed). map need_of l) needs
            ∙ sym (append-nil (needs_held old))
            ∙ ap (λ (l : List Need). needs_held old ++ l) (sym reads.needs)
            ∙ ap (λ (r : Reached Place JobFault). needs_held old ++ yields job_format need_gives r bytes) (sym before);
        head = λ head here.
            ap (λ (p : Place). head_at p) goes
            ∙ head_there h (record { items = tally.items; weight = weight }) rest (rest == 0)
            ∙ sym (ap (λ (p : Place). head_at p) is)
            ∙ here;
      }
