-- What the fields of a replay job behind its head keep.
use Rattle.std.proofs.Common.{◌≡◌, ◌≤◌, ◌<◌, ℕ, ◌+◌, ◌-◌, ◌%◌, ◌^◌, ◌&&◌, ◌==◌, nat_le, nat_lt, Bool, true, false, List, [], ◌∷◌, ◌++◌, length, All, Ok, refl, sym, ◌∙◌, ap, subst, arith, append_assoc, append-nil, length-append}
use Rattle.std.specs.List.{flat_map, AllByRecursion}
use Rattle.std.proofs.lemmas.Bool.{and_parts, cond_both, eqb-true, leb-true, ltb-true}
use Rattle.std.proofs.lemmas.Bool.Decides.{nat_tests}
use Rattle.std.proofs.lemmas.Grind.{flat_map-append}
use Rattle.std.proofs.lemmas.List.Elements.{All-push}
use Rattle.std.proofs.lemmas.List.Sums.{sum_by_push}
use Rattle.byteorder.specs.Endian.{little_bytes, little_number}
use Rattle.byte_format.specs.Keys.{key_bytes, key_size, key_words}
use Rattle.byte_format.proofs.Keys.{key_back, words_small}
use Rattle.byte_format.proofs.Numbers.{bytes_2, bytes_4, fits_4}
use Rattle.flow_keys.specs.Key.{is_valid}
use Rattle.job_format.specs.Job.{AreFull, IsFrame, IsFull, IsItem, frame_bytes, frame_limit, item_bytes, item_limit, replay_head, weight_limit, weight_of}
use Rattle.job_format.specs.Places.{behind_item, if_right, judge_count, judge_key, judge_weight, may_follow, with_frame, with_weight}
use Rattle.job_format.specs.Read.{setting_in}
use Rattle.job_format.specs.declared.fault.JobFault.TheVariants as faults
use Rattle.job_format.specs.declared.item.Item.{Item}
use Rattle.job_format.specs.declared.place.HeadNumbers.{HeadNumbers}
use Rattle.job_format.specs.declared.place.Place.{Place}
use Rattle.job_format.specs.declared.place.Place.TheVariants.{Count, Key, Weight, ReplayEnd}
use Rattle.job_format.specs.declared.place.Tally.{Tally}
use Rattle.job_format.proofs.Fronts.{AreItems, begun_bytes, Says, SaysClosed, SaysFrames, SaysItems, SaysKey, SaysReplay}
use Rattle.job_format.proofs.Judged.{choice_led, joined, led, right_led}

-- a field behind a head and what stood behind it
head_more : {h : HeadNumbers} {front more : List ℕ} → SaysReplay h front more → (field b all : List ℕ) → field ≡ b
    → more ++ b ≡ all → SaysReplay h (front ++ field) all
head_more {h} {front} {more} says field b all is same =
    let head : List ℕ = replay_head h.job (setting_in h) in
    record {
      number = says.number;
      setting = says.setting;
      parts =
          joined says.parts is ∙ append_assoc head more b ∙ ap (λ (l : List ℕ). head ++ l) same;
    }

-- whole frames are full where the items divide so
frames_full : (frames : List (List Item)) (items : List Item) → AllByRecursion IsFrame frames → AreFull frames
    → flat_map (λ frame. frame) frames ≡ items → length items % frame_limit ≡ 0 → AllByRecursion IsFull frames
frames_full [] items each full all even = tt
frames_full (frame ∷ []) items (is, none) full all even =
    let size : length items ≡ length frame = ap length (sym all) ∙ ap length (append-nil frame) in
    (omega (arith, is, even, size), tt)
frames_full (frame ∷ next ∷ frames) items (is, each) (whole, full) all even =
    let rest : List Item = flat_map (λ f. f) (next ∷ frames) in
    let size : length items ≡ length frame + length rest = ap length (sym all) ∙ length-append frame rest in
    (whole, frames_full (next ∷ frames) rest each full refl (omega (arith, whole, even, size)))

-- a frame behind full ones
each_push : (frames : List (List Item)) (frame : List Item) → AllByRecursion IsFull frames → IsFrame frame
    → AllByRecursion IsFrame (frames ++ frame ∷ [])
each_push [] frame none is = (is, tt)
each_push (first ∷ frames) frame (whole, full) is =
    ((omega (arith, whole), omega (arith, whole)), each_push frames frame full is)

full_push : (frames : List (List Item)) (frame : List Item) → AllByRecursion IsFull frames
    → AreFull (frames ++ frame ∷ [])
full_push [] frame none = tt
full_push (first ∷ []) frame (whole, none) = (whole, tt)
full_push (first ∷ next ∷ frames) frame (whole, full) = (whole, full_push (next ∷ frames) frame full)

-- a frame that is filled
frame_filled : (h : HeadNumbers) (tally : Tally) (left : ℕ) (front : List ℕ) (says : SaysItems h tally left front)
    → left ≡ 0 → 1 ≤ length says.begun → SaysFrames h tally front
frame_filled h tally left front says none some = record {
  frames = says.frames ++ says.begun ∷ [];
  items = says.before ++ says.begun;
  framed =
      record {
        all =
            flat_map-append (λ frame. frame) says.frames (says.begun ∷ [])
            ∙ ap (λ (l : List Item). l ++ (says.begun ++ [])) says.all
            ∙ ap (λ (l : List Item). says.before ++ l) (append-nil says.begun);
        each = each_push says.frames says.begun says.full (some, omega (arith, says.size));
        full = full_push says.frames says.begun says.full;
      };
  within = says.within;
  count = omega (arith, says.count, length-append says.before says.begun);
  head =
      record {
        number = says.head.number;
        setting = says.head.setting;
        parts =
            says.head.parts
            ∙ ap (λ (l : List ℕ). replay_head h.job (setting_in h) ++ l)
            (ap
            (λ (n : ℕ). flat_map frame_bytes says.frames ++ (little_bytes 2 n ++ flat_map item_bytes says.begun))
            (omega arith)
            ∙ ap (λ (l : List ℕ). flat_map frame_bytes says.frames ++ l) (sym (append-nil (frame_bytes says.begun)))
            ∙ sym (flat_map-append frame_bytes says.frames (says.begun ∷ [])));
      };
}

-- a count of 0
closed_keeps : (h : HeadNumbers) (tally : Tally) (front field : List ℕ) → All (λ byte. byte < 256) field
    → SaysFrames h tally front → length field ≡ 2 → little_number 2 field ≡ 0 → SaysClosed h tally (front ++ field)
closed_keeps h tally front field small says size none = record {
  short = front;
  frames = says;
  parts = joined refl (sym (bytes_2 field size small) ∙ ap (little_bytes 2) none);
}

some_of : (count : ℕ) → (count == 0) ≡ false → 1 ≤ count
some_of count is = grind (arith, nat_tests)

-- what lets a frame follow
record Follows (tally : Tally) (count : ℕ) : Type 0 where
  few : count ≤ frame_limit
  even : tally.items % frame_limit ≡ 0
  room : tally.items < item_limit

follows_of : (tally : Tally) (count : ℕ) → may_follow tally count ≡ true → Follows tally count
follows_of tally count is =
    let even : Bool = tally.items % frame_limit == 0 in
    let parts = and_parts (nat_le count frame_limit && even) (nat_lt tally.items item_limit) is in
    let first = and_parts (nat_le count frame_limit) even parts.0 in
    record {
      few = leb-true count frame_limit first.0;
      even = eqb-true (tally.items % frame_limit) 0 first.1;
      room = ltb-true tally.items item_limit parts.1;
    }

items_none : (items : List Item) (tally : Tally) (count : ℕ) → AreItems items tally → tally.items + count ≤ item_limit
    → AreItems (items ++ []) (with_frame tally count)
items_none items tally count are few =
    let same : items ≡ items ++ [] = sym (append-nil items) in
    record {
      each = subst (λ (l : List Item). All IsItem l) same are.each;
      few = few;
      weight = are.weight ∙ ap weight_of same;
      light = are.light;
    }

-- a count of some
begun_keeps : (h : HeadNumbers) (tally : Tally) (count : ℕ) (front field : List ℕ) → SaysFrames h tally front
    → field ≡ little_bytes 2 count → Follows tally count → SaysItems h (with_frame tally count) count (front ++ field)
begun_keeps h tally count front field says is follows = record {
  frames = says.frames;
  before = says.items;
  begun = [];
  all = says.framed.all;
  full =
      frames_full says.frames says.items says.framed.each says.framed.full says.framed.all
      (omega (arith, says.count, follows.even));
  within = items_none says.items tally count says.within (omega (arith, follows.few, follows.even, follows.room));
  size = omega (arith, follows.few);
  count = omega (arith, says.count);
  head =
      head_more says.head field (little_bytes 2 count) _ is
      (ap (λ (n : ℕ). flat_map frame_bytes says.frames ++ (little_bytes 2 n ++ [])) (omega arith));
}

pub count_keeps : (h : HeadNumbers) (tally : Tally) (t : Place) (front field : List ℕ) → All (λ byte. byte < 256) field
    → SaysFrames h tally front → length field ≡ 2 → judge_count h tally field ≡ Ok t → Says t (front ++ field)
count_keeps h tally t front field small says size ok =
    let count : ℕ = little_number 2 field in
    let begun : Place = Key h (with_frame tally count) count in
    let bytes : field ≡ little_bytes 2 count = sym (bytes_2 field size small) in
    let closes : count ≡ 0 → Says (ReplayEnd h tally) (front ++ field) =
    λ none. closed_keeps h tally front field small says size none in
    let begins : 1 ≤ count → may_follow tally count ≡ true → Says begun (front ++ field) =
    λ some is. (some, begun_keeps h tally count front field says bytes (follows_of tally count is)) in
    choice_led (λ p. Says p (front ++ field)) (count == 0) (Ok (ReplayEnd h tally))
    (if_right (may_follow tally count) faults.Shape begun) t
    (λ is. led (λ p. Says p (front ++ field)) (ReplayEnd h tally) t (closes (eqb-true count 0 is)))
    (λ is. right_led (λ p. Says p (front ++ field)) (may_follow tally count) faults.Shape begun t
    (begins (some_of count is))) ok

pub key_keeps : (h : HeadNumbers) (tally : Tally) (left : ℕ) (t : Place) (front field : List ℕ)
    → All (λ byte. byte < 256) field → (1 ≤ left) × SaysItems h tally left front → length field ≡ key_size
    → judge_key h tally left field ≡ Ok t → Says t (front ++ field)
unfolding key_words
key_keeps h tally left t front field small (some, says) size ok =
    right_led (λ p. Says p (front ++ field)) (is_valid (key_words field)) faults.Shape
    (Weight h tally left (key_words field)) t
    (λ is. record {
      short = front;
      items = says;
      some_left = some;
      is_key = record { size = refl; each = words_small field small; valid = is };
      parts = joined refl (sym (key_back field size small));
    }) ok

-- an item behind others of a frame
item_push : (frames : List ℕ) (begun : List Item) (item : Item) (count more : ℕ) → count ≡ more
    → (frames ++ (little_bytes 2 count ++ flat_map item_bytes begun)) ++ item_bytes item
    ≡ frames ++ (little_bytes 2 more ++ flat_map item_bytes (begun ++ item ∷ []))
item_push frames begun item count more same =
    append_assoc frames (little_bytes 2 count ++ flat_map item_bytes begun) (item_bytes item)
    ∙ ap (λ (n : ℕ). frames ++ (little_bytes 2 n ++ (flat_map item_bytes begun ++ item_bytes item))) same
    ∙ ap (λ (l : List ℕ). frames ++ (little_bytes 2 more ++ l))
    (ap (λ (l : List ℕ). flat_map item_bytes begun ++ l) (sym (append-nil (item_bytes item)))
    ∙ sym (flat_map-append item_bytes begun (item ∷ [])))

items_push : (items : List Item) (item : Item) (tally : Tally) → AreItems items tally → IsItem item
    → tally.weight + item.weight ≤ weight_limit → AreItems (items ++ item ∷ []) (with_weight tally item.weight)
items_push items item tally are is light = record {
  each = All-push IsItem items item are.each is;
  few = are.few;
  weight = omega (arith, are.weight, sum_by_push (λ i. i.weight) items item);
  light = light;
}

-- an item more
item_keeps : (h : HeadNumbers) (tally : Tally) (left : ℕ) (item : Item) (front field : List ℕ)
    → SaysKey h tally left item.key front → item.weight < 2 ^ 32 → field ≡ little_bytes 4 item.weight
    → tally.weight + item.weight ≤ weight_limit
    → (says : SaysItems h (with_weight tally item.weight) (left - 1) (front ++ field)) × (1 ≤ length says.begun)
item_keeps h tally left item front field says fits is light =
    let items : SaysItems h tally left says.short = says.items in
    let begun : List Item = items.begun ++ item ∷ [] in
    let push = length-append items.begun (item ∷ []) in
    let is_item : IsItem item = record { key = says.is_key; weight = fits } in
    let parts : front ++ field ≡ says.short ++ (key_bytes item.key ++ field) =
    joined says.parts refl ∙ append_assoc says.short (key_bytes item.key) field in
    let same : (items.before ++ items.begun) ++ item ∷ [] ≡ items.before ++ (items.begun ++ item ∷ []) =
    append_assoc items.before items.begun (item ∷ []) in (
      record {
        frames = items.frames;
        before = items.before;
        begun = begun;
        all = items.all;
        full = items.full;
        within =
            subst (λ (l : List Item). AreItems l (with_weight tally item.weight)) same
            (items_push (items.before ++ items.begun) item tally items.within is_item light);
        size = omega (arith, items.size, says.some_left, push);
        count = omega (arith, items.count, says.some_left, push);
        head =
            subst (λ (l : List ℕ). SaysReplay h l (begun_bytes items.frames begun (length begun + (left - 1))))
            (sym parts)
            (head_more items.head (key_bytes item.key ++ field) (item_bytes item) _
            (ap (λ (l : List ℕ). key_bytes item.key ++ l) is)
            (item_push (flat_map frame_bytes items.frames) items.begun item _ _ (omega (arith, says.some_left, push))));
      },
      omega (arith, push),
    )

-- behind an item
behind_keeps : (h : HeadNumbers) (tally : Tally) (left : ℕ) (front : List ℕ) → 1 ≤ left
    → (says : SaysItems h tally (left - 1) front) → 1 ≤ length says.begun → Says (behind_item h tally left) front
behind_keeps h tally left front some says begun =
    cond_both (nat_le left 1) (Count h tally) (Key h tally (left - 1)) (λ p. Says p front)
    (λ is. frame_filled h tally (left - 1) front says (omega (arith, some, leb-true left 1 is)) begun)
    (λ is. let more : 1 < left = grind (arith, nat_tests) in (omega (arith, more), says))

pub weight_keeps : (h : HeadNumbers) (tally : Tally) (left : ℕ) (key : List ℕ) (t : Place) (front field : List ℕ)
    → All (λ byte. byte < 256) field → SaysKey h tally left key front → length field ≡ 4
    → judge_weight h tally left field ≡ Ok t → Says t (front ++ field)
weight_keeps h tally left key t front field small says size ok =
    let item : Item = record { key = key; weight = little_number 4 field } in
    right_led (λ p. Says p (front ++ field)) (nat_le (tally.weight + item.weight) weight_limit) faults.Shape
    (behind_item h (with_weight tally item.weight) left) t
    (λ is.
    let more =
    item_keeps h tally left item front field says (fits_4 field small) (sym (bytes_4 field size small))
    (leb-true (tally.weight + item.weight) weight_limit is) in
    behind_keeps h (with_weight tally item.weight) left (front ++ field) says.some_left more.0 more.1) ok
