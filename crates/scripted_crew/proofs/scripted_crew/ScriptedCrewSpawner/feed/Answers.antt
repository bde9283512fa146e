use Rattle.std.proofs.Common.{◌≡◌, ℕ, ◌+◌, ◌≤◌, true, false, inl, List, ◌∷◌, length, sym, ◌∙◌, ap, subst, arith}
use Rattle.std.proofs.Math.Logic.{∥∥₁_map}
use Rattle.crew.specs.Log.{Entry, pieces_in}
use Rattle.roster.specs.Fed.{fed_to}
use Rattle.scripted_crew.specs.Script.{deeds_left, deeds_of, failures_in, is_listed, is_started, IsScripted, outs_in, script}
use Rattle.scripted_crew.proofs.Keeping.{fed_bytes, keeps_with, raised_is}
use Rattle.scripted_crew.proofs.scripted_crew.ScriptedCrewSpawner.feed.Goals as goal

pub invariant_of-self-then-is_listed : goal.invariant_of-self-then-is_listed
unfolding pieces_in outs_in is_started deeds_left failures_in
invariant_of-self-then-is_listed g c =
    let now = c.args.self.now in
    let h = now.keeps in
    let is = c.note.ensures.entries ∙ ap (λ xs. Entry.FeedFailed c.args.ticket ∷ xs) c.in-Ok.ensures.entries in
    let room : length now.log.entries + (length now.roster.marks + 1) ≤ c.reserve.new.self.room =
    omega (
      arith,
      ap (λ (xs : List Entry). length xs) c.in-Ok.ensures.entries,
      c.in-Ok.ensures.room,
      c.len.ensures.value,
    ) in
    let why : is_listed now.feeds_fail.items c.args.ticket ≡ true =
    ap (λ (xs : List ℕ). is_listed xs c.args.ticket) (sym c.deref.ensures.value) ∙ sym c.is_listed.ensures.value
    ∙ c.if-is_listed.true in
    record {
      keeps = keeps_with now.roster now.fed now.log.entries c.note.new.self now.started.items (deeds_of now.acts.items)
          now.done c.raised-self.result
          (Entry.FeedFailed c.args.ticket) is (omega (arith, room, c.note.ensures.room))
          h.numbered h.order h.known h.bytes h.started_is h.issued h.within h.left
          (raised_is (failures_in now.log.entries) now.faults c.raised-self.result h.counted
          c.raised-self.ensures.value);
      scripted = λ told. subst (λ (xs : List Entry). ∥ IsScripted
          (script now.starts_fail.items now.feeds_fail.items now.seals_fail.items (deeds_of now.acts.items))
          (g.A.Answerer.answers now.answerer) (g.A.Answerer.refuses now.answerer) xs ∥₁)
          (sym is) (∥∥₁_map (now.scripted told) (λ before. (inl why, before)));
    }

pub invariant_of-self-2 : goal.invariant_of-self-2
unfolding pieces_in outs_in is_started deeds_left failures_in
invariant_of-self-2 g c =
    let now = c.args.self.now in
    let h = now.keeps in
    let is = c.note-2.ensures.entries ∙ ap (λ (e : Entry). e ∷ c.reserve.new.self.entries) c.in-Ok-fed.ensures.entry
    ∙ ap (λ xs. Entry.Fed c.args.ticket c.args.piece.now ∷ xs) c.in-Ok.ensures.entries in
    let room : length now.log.entries + (length now.roster.marks + 1) ≤ c.reserve.new.self.room =
    omega (
      arith,
      ap (λ (xs : List Entry). length xs) c.in-Ok.ensures.entries,
      c.in-Ok.ensures.room,
      c.len.ensures.value,
    ) in
    let why : is_listed now.feeds_fail.items c.args.ticket ≡ false =
    ap (λ (xs : List ℕ). is_listed xs c.args.ticket) (sym c.deref.ensures.value) ∙ sym c.is_listed.ensures.value
    ∙ c.if-is_listed.false in
    record {
      keeps = keeps_with now.roster c.append.new.self now.log.entries c.note-2.new.self now.started.items
          (deeds_of now.acts.items) now.done now.faults
          (Entry.Fed c.args.ticket c.args.piece.now) is (omega (arith, room, c.note-2.ensures.room))
          (c.in-Ok-append.ensures.count ∙ h.numbered) h.order h.known
          (λ t. c.in-Ok-append.ensures.bytes t ∙ fed_bytes now.log.entries c.args.ticket t c.args.piece.now (fed_to
          now.fed.jobs t) (h.bytes t))
          h.started_is h.issued h.within h.left h.counted;
      scripted = λ told. subst (λ (xs : List Entry). ∥ IsScripted
          (script now.starts_fail.items now.feeds_fail.items now.seals_fail.items (deeds_of now.acts.items))
          (g.A.Answerer.answers now.answerer) (g.A.Answerer.refuses now.answerer) xs ∥₁)
          (sym is) (∥∥₁_map (now.scripted told) (λ before. (why, before)));
    }
