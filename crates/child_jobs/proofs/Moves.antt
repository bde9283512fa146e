-- A reader's steps.
use Rattle.std.proofs.Common.{◌≡◌, ◌<◌, ◌≤◌, ℕ, ◌+◌, false, Bool, if◌then◌else◌, List, [], ◌++◌, length, map, take, drop, Option, None, Result, Err, refl, sym, ◌∙◌, ap, subst, arith, append_assoc, append-nil, take-append-drop, length-take-le}
use Rattle.std.specs.Option.{option_to_list}
use Rattle.std.proofs.lemmas.List.{drop-take, map-append, take-take}
use Rattle.bound_certificate.specs.declared.need.Need.{Need}
use Rattle.bound_certificate.specs.declared.site.Site.{Site}
use Rattle.byte_format.specs.Format.{At, Broken, Reached, judged, reached, yields}
use Rattle.byte_format.proofs.Formats.{reached-append, reached-broken, reached-field, reached-part}
use Rattle.byte_format.proofs.Yields.{yields-append, yields-field, yields-part}
use Rattle.job_format.specs.Given.{item_gives, need_gives, site_gives}
use Rattle.job_format.specs.Held.{need_of}
use Rattle.job_format.specs.Places.{job_format, judge_place, place_size}
use Rattle.job_format.specs.declared.fault.JobFault.{JobFault}
use Rattle.job_format.specs.declared.held_need.HeldNeed.{HeldNeed}
use Rattle.job_format.specs.declared.item.Item.{Item}
use Rattle.job_format.specs.declared.place.Place.{Place}
use Rattle.child_jobs.specs.Heads.{head_at}
use Rattle.child_jobs.specs.Reader.{Begins, Moves, TakesField, kept, needs_held, state, state_of, stopped}
use Rattle.child_jobs.specs.Rooms.{Completes}
use Rattle.child_jobs.specs.declared.reader.JobReader.{JobReader}
use Rattle.child_jobs.proofs.Heads.{head_stays}

-- what is held after a piece was put behind it
pub record IsPut (held new piece : List ℕ) (filled count : ℕ) : Type 0 where
  pub within : filled ≤ length held
  pub fits : count ≤ length piece
  pub bytes : take (filled + length (take count piece)) new ≡ take filled held ++ take count piece

put_bytes : {held new piece : List ℕ} {filled count : ℕ} → IsPut held new piece filled count
    → take (filled + count) new ≡ take filled held ++ take count piece
put_bytes {held} {new} {piece} {filled} {count} put =
    subst (λ (n : ℕ). take (filled + n) new ≡ take filled held ++ take count piece)
    (length-take-le count piece put.fits) put.bytes

-- where nothing is held, a piece stands as if it was put
pub whole_put : (held piece : List ℕ) {filled count : ℕ} → filled ≡ 0 → count ≤ length piece
    → IsPut held piece piece filled count
whole_put held piece {filled} {count} none fits =
    let size : filled + length (take count piece) ≡ count =
    omega (arith, none, length-take-le count piece fits) in
    record {
      within = omega (arith, none);
      fits = fits;
      bytes =
          ap (λ (n : ℕ). take n piece) size
          ∙ ap (λ (n : ℕ). take n held ++ take count piece) (sym none);
    }

-- a reader that goes on is at its place
pub at_state : (r : JobReader) → stopped r ≡ None → state r ≡ At r.place (take r.filled r.held)
at_state r going = ap (λ (s : Option JobFault). state_of s r.place (take r.filled r.held)) going

pub kept_all : (r : JobReader) → r.ended ≡ false → kept r ≡ r.frame.items
kept_all r open_yet = ap (λ (e : Bool). if e then [] else r.frame.items) open_yet

-- only the bytes that are held are others
pub record Stays (old new : JobReader) : Type 0 where
  pub place : new.place ≡ old.place
  pub stop : new.stop ≡ old.stop
  pub items : new.frame.items ≡ old.frame.items
  pub sites : new.sites.items ≡ old.sites.items
  pub needs : new.needs.items ≡ old.needs.items

-- bytes that don't fill a field
module _ (old new : JobReader) {piece : List ℕ} {count : ℕ} (going : stopped old ≡ None)
    (put : IsPut old.held new.held piece old.filled count) where
  short_part : old.filled + count < place_size old.place
      → length (take old.filled old.held) + length (take count piece) < place_size old.place
  short_part less = omega
      (arith, less, length-take-le count piece put.fits, length-take-le old.filled old.held put.within)

  none_more : {X : Type 0} (gives : Place → List ℕ → List X) (xs : List X) → old.filled + count < place_size old.place
      → xs ≡ xs ++ yields job_format gives (state old) (take count piece)
  none_more {X} gives xs less =
      sym (append-nil xs)
      ∙ ap (λ (l : List X). xs ++ l)
      (sym (yields-part job_format gives old.place (take old.filled old.held) (take count piece) (short_part less))
      ∙ ap (λ (r : Reached Place JobFault). yields job_format gives r (take count piece)) (sym (at_state old going)))

  pub part_moves : old.ended ≡ false → Stays old new → new.filled ≡ old.filled + count
      → old.filled + count < place_size old.place → Moves old new (take count piece)
  part_moves open_yet same filled less = record {
    going = same.stop ∙ going;
    leads =
        at_state new (same.stop ∙ going)
        ∙ ap (λ (p : Place). At p (take new.filled new.held)) same.place
        ∙ ap (λ (n : ℕ). At old.place (take n new.held)) filled
        ∙ ap (λ (l : List ℕ). At old.place l) (put_bytes put)
        ∙ sym (reached-part job_format old.place (take old.filled old.held) (take count piece) (short_part less))
        ∙ ap (λ (r : Reached Place JobFault). reached job_format r (take count piece)) (sym (at_state old going));
    items = same.items ∙ sym (kept_all old open_yet) ∙ none_more item_gives (kept old) less;
    sites = same.sites ∙ none_more site_gives old.sites.items less;
    needs = ap (λ (l : List HeldNeed). map need_of l) same.needs ∙ none_more need_gives (needs_held old) less;
    head = λ head here. ap (λ (p : Place). head_at p) same.place ∙ here;
  }

-- bytes that fill it
module _ (old : JobReader) {now piece : List ℕ} {count : ℕ} (going : stopped old ≡ None)
    (put : IsPut old.held now piece old.filled count) (some : 0 < count)
    (full : old.filled + count ≡ place_size old.place) where
  some_part : 0 < length (take count piece)
  some_part = omega (arith, some, length-take-le count piece put.fits)

  full_part : length (take old.filled old.held) + length (take count piece) ≡ place_size old.place
  full_part = omega (arith, full, length-take-le count piece put.fits, length-take-le old.filled old.held put.within)

  field_leads : reached job_format (state old) (take count piece) ≡ judged
      (judge_place old.place (take (old.filled + count) now))
  field_leads =
      ap (λ (r : Reached Place JobFault). reached job_format r (take count piece)) (at_state old going)
      ∙ reached-field job_format old.place (take old.filled old.held) (take count piece) some_part full_part
      ∙ ap (λ (l : List ℕ). judged (judge_place old.place l)) (sym (put_bytes put))

  field_gives : {X : Type 0} (gives : Place → List ℕ → List X)
      → yields job_format gives (state old) (take count piece) ≡ gives old.place (take (old.filled + count) now)
  field_gives {X} gives =
      ap (λ (r : Reached Place JobFault). yields job_format gives r (take count piece)) (at_state old going)
      ∙ yields-field job_format gives old.place (take old.filled old.held) (take count piece) some_part full_part
      ∙ ap (λ (l : List ℕ). gives old.place l) (sym (put_bytes put))

-- a reader behind a field
pub record Goes (old new : JobReader) (place : Place) (item : Option Item) (site : Option Site)
    (need : Option HeldNeed) : Type 0 where
  pub at : new.place ≡ place
  pub filled : new.filled ≡ 0
  pub stop : new.stop ≡ old.stop
  pub items : new.frame.items ≡ old.frame.items ++ option_to_list item
  pub sites : new.sites.items ≡ old.sites.items ++ option_to_list site
  pub needs : new.needs.items ≡ old.needs.items ++ option_to_list need

pub state_start : (r : JobReader) (place : Place) → stopped r ≡ None → r.place ≡ place → r.filled ≡ 0
    → state r ≡ At place []
state_start r place going is none =
    at_state r going ∙ ap (λ (n : ℕ). At r.place (take n r.held)) none ∙ ap (λ (p : Place). At p []) is

pub field_taken : (old new : JobReader) {field : List ℕ} (place : Place) (item : Option Item) (site : Option Site)
    (need : Option HeldNeed) → stopped old ≡ None → Completes old.place place field item site need
    → Goes old new place item site need → TakesField old new field
field_taken old new {field} place item site need going completes goes = record {
  going = goes.stop ∙ going;
  leads =
      state_start new place (goes.stop ∙ going) goes.at goes.filled
      ∙ ap (λ (r : Result Place JobFault). judged r) (sym completes.judged);
  items = goes.items ∙ ap (λ (l : List Item). old.frame.items ++ l) completes.as_item;
  sites = goes.sites ∙ ap (λ (l : List Site). old.sites.items ++ l) completes.as_site;
  needs =
      ap (λ (l : List HeldNeed). map need_of l) goes.needs
      ∙ map-append need_of old.needs.items (option_to_list need)
      ∙ ap (λ (l : List Need). needs_held old ++ l) completes.as_need;
  head = λ head here. ap (λ (p : Place). head_at p) goes.at ∙ head_stays old.place place field completes.judged head here;
}

pub field_moves : (old new : JobReader) {now piece : List ℕ} {count : ℕ} → stopped old ≡ None → old.ended ≡ false
    → IsPut old.held now piece old.filled count → 0 < count → old.filled + count ≡ place_size old.place
    → TakesField old new (take (old.filled + count) now) → Moves old new (take count piece)
field_moves old new {now} {piece} {count} going open_yet put some full takes = record {
  going = takes.going;
  leads = takes.leads ∙ sym (field_leads old going put some full);
  items =
      takes.items
      ∙ ap (λ (l : List Item). l ++ item_gives old.place (take (old.filled + count) now)) (sym (kept_all old open_yet))
      ∙ ap (λ (l : List Item). kept old ++ l) (sym (field_gives old going put some full item_gives));
  sites = takes.sites
      ∙ ap (λ (l : List Site). old.sites.items ++ l) (sym (field_gives old going put some full site_gives));
  needs = takes.needs
      ∙ ap (λ (l : List Need). needs_held old ++ l) (sym (field_gives old going put some full need_gives));
  head = takes.head;
}

-- a fault within the front is one of the whole
broken_whole : (now : Reached Place JobFault) (piece : List ℕ) (count : ℕ) (fault : JobFault)
    → reached job_format now (take count piece) ≡ Broken fault → reached job_format now piece ≡ Broken fault
broken_whole now piece count fault is =
    ap (λ (l : List ℕ). reached job_format now l) (sym (take-append-drop count piece))
    ∙ reached-append job_format now (take count piece) (drop count piece)
    ∙ ap (λ (r : Reached Place JobFault). reached job_format r (drop count piece)) is
    ∙ reached-broken job_format fault (drop count piece)

-- that of a field is one of the piece
pub field_breaks : (old : JobReader) {now piece : List ℕ} {count : ℕ} (fault : JobFault) → stopped old ≡ None
    → IsPut old.held now piece old.filled count → 0 < count → old.filled + count ≡ place_size old.place
    → judge_place old.place (take (old.filled + count) now) ≡ Err fault
    → reached job_format (state old) piece ≡ Broken fault
field_breaks old {now} {piece} {count} fault going put some full is =
    broken_whole (state old) piece count fault
    (field_leads old going put some full ∙ ap (λ (r : Result Place JobFault). judged r) is)

-- a fault behind the front is one of the whole
pub broken_rest : (now middle : Reached Place JobFault) (piece : List ℕ) (taken : ℕ) (fault : JobFault)
    → middle ≡ reached job_format now (take taken piece) → reached job_format middle (drop taken piece) ≡ Broken fault
    → reached job_format now piece ≡ Broken fault
broken_rest now middle piece taken fault is broken =
    ap (λ (l : List ℕ). reached job_format now l) (sym (take-append-drop taken piece))
    ∙ reached-append job_format now (take taken piece) (drop taken piece)
    ∙ ap (λ (r : Reached Place JobFault). reached job_format r (drop taken piece)) (sym is)
    ∙ broken

pub take-add : (n m : ℕ) (xs : List ℕ) → take (n + m) xs ≡ take n xs ++ take m (drop n xs)
take-add n m xs =
    sym (take-append-drop n (take (n + m) xs))
    ∙ ap (λ (l : List ℕ). l ++ drop n (take (n + m) xs)) (take-take n (n + m) xs (omega arith))
    ∙ ap (λ (l : List ℕ). take n xs ++ l) (drop-take n m xs)

pub reached-nil : (now : Reached Place JobFault) → reached job_format now [] ≡ now
unfolding reached
reached-nil now = refl

pub yields-nil : {X : Type 0} (gives : Place → List ℕ → List X) (now : Reached Place JobFault)
    → yields job_format gives now [] ≡ []
unfolding yields
yields-nil gives now = refl

pub none_yet : {X : Type 0} (gives : Place → List ℕ → List X) (now : Reached Place JobFault) (xs : List X)
    → xs ≡ xs ++ yields job_format gives now []
none_yet {X} gives now xs = sym (append-nil xs) ∙ ap (λ (l : List X). xs ++ l) (sym (yields-nil gives now))

-- no byte
pub stays : (r : JobReader) → stopped r ≡ None → r.ended ≡ false → Moves r r []
stays r going open_yet = record {
  going = going;
  leads = sym (reached-nil (state r));
  items = sym (kept_all r open_yet) ∙ none_yet item_gives (state r) (kept r);
  sites = none_yet site_gives (state r) r.sites.items;
  needs = none_yet need_gives (state r) (needs_held r);
  head = λ head here. here;
}

-- bytes in two pieces
pub both_give : {X : Type 0} (gives : Place → List ℕ → List X) (now middle : Reached Place JobFault) (xs ys : List ℕ)
    (first items after : List X) → middle ≡ reached job_format now xs
    → items ≡ first ++ yields job_format gives now xs → after ≡ items ++ yields job_format gives middle ys
    → after ≡ first ++ yields job_format gives now (xs ++ ys)
both_give {X} gives now middle xs ys first items after is so_far more =
    more
    ∙ ap (λ (r : Reached Place JobFault). items ++ yields job_format gives r ys) is
    ∙ ap (λ (l : List X). l ++ yields job_format gives (reached job_format now xs) ys) so_far
    ∙ append_assoc first (yields job_format gives now xs) (yields job_format gives (reached job_format now xs) ys)
    ∙ ap (λ (l : List X). first ++ l) (sym (yields-append job_format gives now xs ys))

pub moves_both : (a b c : JobReader) (xs ys : List ℕ) → Moves a b xs → b.ended ≡ false → Moves b c ys → Moves a c (xs ++ ys)
moves_both a b c xs ys first open_yet second = record {
  going = second.going;
  leads =
      second.leads
      ∙ ap (λ (r : Reached Place JobFault). reached job_format r ys) first.leads
      ∙ sym (reached-append job_format (state a) xs ys);
  items =
      both_give item_gives (state a) (state b) xs ys (kept a) b.frame.items c.frame.items first.leads first.items
      (second.items ∙ ap (λ (l : List Item). l ++ yields job_format item_gives (state b) ys) (kept_all b open_yet));
  sites = both_give site_gives (state a) (state b) xs ys a.sites.items b.sites.items c.sites.items first.leads
      first.sites second.sites;
  needs = both_give need_gives (state a) (state b) xs ys (needs_held a) (needs_held b) (needs_held c) first.leads
      first.needs second.needs;
  head = λ head here. second.head head (first.head head here);
}

pub moves_on : (a b c : JobReader) (piece rest : List ℕ) (taken count : ℕ) → rest ≡ drop taken piece
    → Moves a b (take taken piece) → b.ended ≡ false → Moves b c (take count rest)
    → Moves a c (take (taken + count) piece)
moves_on a b c piece rest taken count is first open_yet second =
    subst (λ (l : List ℕ). Moves a c l) (sym (take-add taken count piece))
    (moves_both a b c (take taken piece) (take count (drop taken piece)) first open_yet
    (subst (λ (l : List ℕ). Moves b c (take count l)) is second))

-- a reader that forgot a frame first
pub begun_moves : (a b c : JobReader) (bytes : List ℕ) → Begins a b → b.ended ≡ false → Moves b c bytes
    → Moves a c bytes
begun_moves a b c bytes begins open_yet moves = record {
  going = moves.going;
  leads = moves.leads ∙ ap (λ (r : Reached Place JobFault). reached job_format r bytes) begins.leads;
  items =
      moves.items
      ∙ ap (λ (l : List Item). l ++ yields job_format item_gives (state b) bytes) (kept_all b open_yet ∙ begins.items)
      ∙ ap (λ (r : Reached Place JobFault). kept a ++ yields job_format item_gives r bytes) begins.leads;
  sites =
      moves.sites
      ∙ ap (λ (l : List Site). l ++ yields job_format site_gives (state b) bytes) begins.sites
      ∙ ap (λ (r : Reached Place JobFault). a.sites.items ++ yields job_format site_gives r bytes) begins.leads;
  needs =
      moves.needs
      ∙ ap (λ (l : List Need). l ++ yields job_format need_gives (state b) bytes) begins.needs
      ∙ ap (λ (r : Reached Place JobFault). needs_held a ++ yields job_format need_gives r bytes) begins.leads;
  head = λ head here. moves.head head (begins.head ∙ here);
}
