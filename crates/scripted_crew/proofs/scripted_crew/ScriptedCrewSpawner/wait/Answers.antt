use Rattle.std.proofs.Common.{ℕ, ◌+◌, ◌≤◌, ◌==◌, not, List, ◌∷◌, Option, drop, length, sym, ◌∙◌, ap, subst, arith}
use Rattle.std.proofs.Math.Logic.{∥∥₁_map}
use Rattle.std.specs.Prelude.{filter, slice_get}
use Rattle.crew.specs.Log.{Entry, pieces_in}
use Rattle.crew.specs.declared.event.Event.{Event}
use Rattle.scripted_crew.specs.Gives.{Gives}
use Rattle.scripted_crew.specs.Script.{Deed, deeds_left, deeds_of, failures_in, is_started, IsScripted, next_deed, outs_in, script}
use Rattle.scripted_crew.specs.declared.act.Act.{Act}
use Rattle.scripted_crew.proofs.Deeds.{deeds_count}
use Rattle.scripted_crew.proofs.Events.{death_of, death_on, next_is, reply_of, reply_on, scripted_on}
use Rattle.scripted_crew.proofs.Keeping.{keeps_reserved, keeps_with, raised_is}
use Rattle.scripted_crew.proofs.scripted_crew.ScriptedCrewSpawner.wait.Goals as goal

pub next_act-place-requires : goal.next_act-place-requires
next_act-place-requires g c =
    let now = c.args.self.now in
    record {
      within = omega (
        arith,
        now.keeps.within,
        ap (λ (xs : List Act). length xs) c.deref.ensures.value,
        deeds_count now.acts.items,
      );
    }

pub invariant_of-self-in-Break-1 : goal.invariant_of-self-in-Break-1
invariant_of-self-in-Break-1 g c =
    let now = c.args.self.now in
    record {
      keeps = keeps_reserved now.roster now.fed now.log c.reserve.new.self now.started.items (deeds_of now.acts.items)
          now.done now.faults
          now.keeps c.in-Ok.ensures.entries c.in-Ok.ensures.grows;
      scripted = λ told. subst (λ (xs : List Entry). ∥ IsScripted
          (script now.starts_fail.items now.feeds_fail.items now.seals_fail.items (deeds_of now.acts.items))
          (g.A.Answerer.answers c.event_of.new.answerer) (g.A.Answerer.refuses c.event_of.new.answerer) xs ∥₁)
          (sym c.in-Ok.ensures.entries)
          (∥∥₁_map (now.scripted (sym c.event_of.ensures.told ∙ told))
          (scripted_on _ _ _ _ _ c.event_of.ensures.stays.forth c.event_of.ensures.stays.none now.log.entries));
    }

pub invariant_of-self-in-Break-branch-2 : goal.invariant_of-self-in-Break-branch-2
invariant_of-self-in-Break-branch-2 g c =
    let now = c.args.self.now in
    record {
      keeps = keeps_reserved now.roster now.fed now.log c.reserve.new.self now.started.items (deeds_of now.acts.items)
          now.done now.faults
          now.keeps c.in-Ok.ensures.entries c.in-Ok.ensures.grows;
      scripted = λ told. subst (λ (xs : List Entry). ∥ IsScripted
          (script now.starts_fail.items now.feeds_fail.items now.seals_fail.items (deeds_of now.acts.items))
          (g.A.Answerer.answers c.event_of.new.answerer) (g.A.Answerer.refuses c.event_of.new.answerer) xs ∥₁)
          (sym c.in-Ok.ensures.entries)
          (∥∥₁_map (now.scripted (sym c.event_of.ensures.told ∙ told))
          (scripted_on _ _ _ _ _ c.event_of.ensures.stays.forth c.event_of.ensures.stays.none now.log.entries));
    }

pub invariant_of-self-in-Reply : goal.invariant_of-self-in-Reply
unfolding pieces_in outs_in is_started deeds_left failures_in
invariant_of-self-in-Reply g c =
    let now = c.args.self.now in
    let h = now.keeps in
    let deeds = deeds_of now.acts.items in
    let room : length now.log.entries + (length now.roster.marks + 1) ≤ c.reserve.new.self.room =
    omega (
      arith,
      ap (λ (xs : List Entry). length xs) c.in-Ok.ensures.entries,
      c.in-Ok.ensures.room,
      c.len.ensures.value,
    ) in
    let next = next_is now.acts.items c.deref.result.now c.deref-2.result.now now.started.items now.log.entries now.done
    c.next_act-place.result
    c.deref.ensures.value c.deref-2.ensures.value h.started_is h.left c.next_act-place.ensures.value in
    let within : c.behind-done.result ≤ length deeds =
    omega (
      arith,
      c.behind-done.ensures.within,
      ap (λ (xs : List Act). length xs) c.deref-3.ensures.value,
      deeds_count
          now.acts.items,
    ) in
    let left = ap (λ (xs : List Act). drop c.behind-done.result (deeds_of xs)) (sym c.deref-3.ensures.value)
    ∙ c.behind-done.ensures.value
    ∙ ap (λ (xs : List Act). drop 1 (drop c.next_act-place.result (deeds_of xs))) c.deref-3.ensures.value
    ∙ ap (λ (ds : List Deed). drop 1 ds) next in
    let first = ap (λ (ts : List ℕ). slice_get ts 0) (sym h.order) ∙ c.oldest-oldest.ensures.first in
    let deed = ap (λ (xs : List Act). slice_get (drop c.next_act-place.result (deeds_of xs)) 0) c.deref-4.ensures.value
    ∙ ap (λ (ds : List Deed). slice_get ds 0) next in
    let ticket = c.in-Reply.ticket in
    let bytes = c.in-Reply.bytes.items in
    let entry = c.in_ok-entry-in-Reply.ensures.entry ∙ ap (λ (xs : List ℕ). Entry.Reply ticket
    xs) c.deref-in-Reply.ensures.value in
    let is = c.note.ensures.entries ∙ ap (λ (e : Entry). e ∷ c.reserve.new.self.entries) entry
    ∙ ap (λ xs. Entry.Reply ticket bytes ∷ xs) c.in-Ok.ensures.entries in
    record {
      keeps = keeps_with c.remove.new.self now.fed now.log.entries c.note.new.self now.started.items deeds
          c.behind-done.result now.faults
          (Entry.Reply ticket bytes) is (omega (arith, room, c.remove.ensures.count, c.note.ensures.room))
          (h.numbered ∙ sym c.remove.ensures.issued) (c.remove.ensures.order
          ∙ ap (filter (λ t. not (t == ticket))) h.order)
          c.remove.ensures.known h.bytes h.started_is (λ t s. omega (arith, h.issued t s, c.remove.ensures.issued))
          within left h.counted;
      scripted = λ told.
          let was_told = sym c.event_of.ensures.told ∙ told in
          let gave = subst (λ (o : Option Deed). Gives (g.A.Answerer.answers now.answerer)
          (g.A.Answerer.refuses now.answerer) o c.oldest-oldest.result now.fed.jobs c.in_ok-event.event)
          deed (c.in_ok-event.ensures.gives was_told) in
          let here = subst (λ (e : Event). Gives (g.A.Answerer.answers now.answerer) (g.A.Answerer.refuses now.answerer)
          (next_deed deeds now.log.entries) c.oldest-oldest.result now.fed.jobs e)
          c.in-Reply.is gave in
          let reply = reply_of (g.A.Answerer.answers now.answerer) (g.A.Answerer.refuses now.answerer)
          (next_deed deeds now.log.entries)
          c.oldest-oldest.result now.fed.jobs now.log.entries ticket c.in-Reply.bytes here first h.bytes in
          subst (λ (xs : List Entry). ∥ IsScripted (script now.starts_fail.items now.feeds_fail.items
          now.seals_fail.items (deeds_of now.acts.items))
          (g.A.Answerer.answers c.event_of.new.answerer) (g.A.Answerer.refuses c.event_of.new.answerer) xs ∥₁) (sym is)
          (∥∥₁_map (now.scripted was_told) (λ before. (
            reply_on _ _ c.event_of.ensures.stays.forth _ now.log.entries ticket bytes reply,
            scripted_on _ _ _ _ _ c.event_of.ensures.stays.forth c.event_of.ensures.stays.none now.log.entries before,
          )));
    }

pub invariant_of-self-in-Died : goal.invariant_of-self-in-Died
unfolding pieces_in outs_in is_started deeds_left failures_in
invariant_of-self-in-Died g c =
    let now = c.args.self.now in
    let h = now.keeps in
    let deeds = deeds_of now.acts.items in
    let room : length now.log.entries + (length now.roster.marks + 1) ≤ c.reserve.new.self.room =
    omega (
      arith,
      ap (λ (xs : List Entry). length xs) c.in-Ok.ensures.entries,
      c.in-Ok.ensures.room,
      c.len.ensures.value,
    ) in
    let next = next_is now.acts.items c.deref.result.now c.deref-2.result.now now.started.items now.log.entries now.done
    c.next_act-place.result
    c.deref.ensures.value c.deref-2.ensures.value h.started_is h.left c.next_act-place.ensures.value in
    let within : c.behind-done.result ≤ length deeds =
    omega (
      arith,
      c.behind-done.ensures.within,
      ap (λ (xs : List Act). length xs) c.deref-3.ensures.value,
      deeds_count
          now.acts.items,
    ) in
    let left = ap (λ (xs : List Act). drop c.behind-done.result (deeds_of xs)) (sym c.deref-3.ensures.value)
    ∙ c.behind-done.ensures.value
    ∙ ap (λ (xs : List Act). drop 1 (drop c.next_act-place.result (deeds_of xs))) c.deref-3.ensures.value
    ∙ ap (λ (ds : List Deed). drop 1 ds) next in
    let first = ap (λ (ts : List ℕ). slice_get ts 0) (sym h.order) ∙ c.oldest-oldest.ensures.first in
    let deed = ap (λ (xs : List Act). slice_get (drop c.next_act-place.result (deeds_of xs)) 0) c.deref-4.ensures.value
    ∙ ap (λ (ds : List Deed). slice_get ds 0) next in
    let ticket = c.in-Died.ticket in
    let is = c.note-in-Died.ensures.entries ∙ ap (λ xs. Entry.Died ticket ∷ xs) c.in-Ok.ensures.entries in
    record {
      keeps = keeps_with c.remove-in-Died.new.self now.fed now.log.entries c.note-in-Died.new.self now.started.items
          deeds c.behind-done.result c.raised-self.result
          (Entry.Died ticket) is (omega (arith, room, c.remove-in-Died.ensures.count, c.note-in-Died.ensures.room))
          (h.numbered ∙ sym c.remove-in-Died.ensures.issued)
          (c.remove-in-Died.ensures.order ∙ ap (filter (λ t. not (t == ticket))) h.order)
          c.remove-in-Died.ensures.known h.bytes h.started_is
          (λ t s. omega (arith, h.issued t s, c.remove-in-Died.ensures.issued)) within left
          (raised_is (failures_in now.log.entries) now.faults c.raised-self.result h.counted
          c.raised-self.ensures.value);
      scripted = λ told.
          let was_told = sym c.event_of.ensures.told ∙ told in
          let gave = subst (λ (o : Option Deed). Gives (g.A.Answerer.answers now.answerer)
          (g.A.Answerer.refuses now.answerer) o c.oldest-oldest.result now.fed.jobs c.in_ok-event.event)
          deed (c.in_ok-event.ensures.gives was_told) in
          let here = subst (λ (e : Event). Gives (g.A.Answerer.answers now.answerer) (g.A.Answerer.refuses now.answerer)
          (next_deed deeds now.log.entries) c.oldest-oldest.result now.fed.jobs e)
          c.in-Died.is gave in
          let death = death_of (g.A.Answerer.answers now.answerer) (g.A.Answerer.refuses now.answerer)
          (next_deed deeds now.log.entries)
          c.oldest-oldest.result now.fed.jobs now.log.entries ticket here first h.bytes in
          subst (λ (xs : List Entry). ∥ IsScripted (script now.starts_fail.items now.feeds_fail.items
          now.seals_fail.items (deeds_of now.acts.items))
          (g.A.Answerer.answers c.event_of.new.answerer) (g.A.Answerer.refuses c.event_of.new.answerer) xs ∥₁) (sym is)
          (∥∥₁_map (now.scripted was_told) (λ before. (
            death_on _ _ c.event_of.ensures.stays.none _ now.log.entries ticket death,
            scripted_on _ _ _ _ _ c.event_of.ensures.stays.forth c.event_of.ensures.stays.none now.log.entries before,
          )));
    }
