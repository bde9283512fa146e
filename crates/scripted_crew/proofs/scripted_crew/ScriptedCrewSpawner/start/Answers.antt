use Rattle.std.proofs.Common.{◌≡◌, ℕ, ◌+◌, ◌<◌, ◌≤◌, ◌==◌, ◌⊎◌, ◌||◌, Bool, true, false, inl, inr, List, [], ◌∷◌, ◌++◌, length, sym, ◌∙◌, ap, subst, arith}
use Rattle.std.proofs.Math.Logic.{∥∥₁_map}
use Rattle.std.specs.Prelude.{nat_le}
use Rattle.crew.specs.Log.{Entry, pieces_in}
use Rattle.roster.specs.declared.mark.Mark.{Mark}
use Rattle.roster.specs.Roster.{tickets}
use Rattle.roster.specs.Fed.{fed_to}
use Rattle.scripted_crew.specs.Script.{deeds_left, deeds_of, failures_in, is_listed, is_started, IsScripted, outs_in, script}
use Rattle.scripted_crew.proofs.Keeping.{full_or_listed, keeps_with, listed_push, raised_is, room_and_unlisted, was_or_is}
use Rattle.scripted_crew.proofs.scripted_crew.ScriptedCrewSpawner.start.Goals as goal

pub invariant_of-self-then-start_fails : goal.invariant_of-self-then-start_fails
unfolding pieces_in outs_in is_started deeds_left failures_in
invariant_of-self-then-start_fails g c =
    let now = c.args.self.now in
    let h = now.keeps in
    let is = c.note.ensures.entries ∙ ap (λ xs. Entry.StartFailed c.args.ticket ∷ xs) c.in-Ok-reserve.ensures.entries in
    let room : length now.log.entries + (length now.roster.marks + 2) ≤ c.reserve-2.new.self.room =
    omega (
      arith,
      ap (λ (xs : List Entry). length xs) c.in-Ok-reserve.ensures.entries,
      c.in-Ok-reserve.ensures.room,
      c.len-out.ensures.value,
    ) in
    let out : c.len-out.result ≡ length (outs_in now.log.entries) = c.len-out.ensures.order
    ∙ ap (λ (ts : List ℕ). length ts) h.order in
    let why : (is_listed now.starts_fail.items c.args.ticket ≡ true) ⊎ (64 ≤ length (outs_in now.log.entries)) =
    full_or_listed (length (outs_in now.log.entries)) (is_listed now.starts_fail.items c.args.ticket)
    (ap (λ (n : ℕ). nat_le 64 n || is_listed now.starts_fail.items c.args.ticket) (sym out)
    ∙ ap (λ (xs : List ℕ). nat_le 64 c.len-out.result || is_listed xs c.args.ticket) (sym c.deref.ensures.value)
    ∙ sym c.start_fails.ensures.value ∙ c.if-start_fails.true) in
    record {
      keeps = keeps_with c.pass.new.self c.add_ticket.new.self now.log.entries c.note.new.self now.started.items
          (deeds_of now.acts.items) now.done c.raised-self.result
          (Entry.StartFailed c.args.ticket) is (omega
          (arith, room, c.note.ensures.room, ap (λ (ms : List Mark). length ms) c.pass.ensures.marks))
          (omega (
            arith,
            c.add_ticket.ensures.count,
            ap (λ (xs : List (List ℕ)). length xs) c.in-Ok.ensures.jobs,
            h.numbered,
            c.pass.ensures.issued,
          ))
          (ap tickets c.pass.ensures.marks ∙ h.order) c.pass.ensures.known
          (λ t. c.add_ticket.ensures.bytes t ∙ ap (λ (jobs : List (List ℕ)). fed_to jobs t) c.in-Ok.ensures.jobs
          ∙ h.bytes t) h.started_is
          (λ t s. omega (arith, h.issued t s, c.pass.ensures.issued)) h.within h.left
          (raised_is (failures_in now.log.entries) now.faults c.raised-self.result h.counted
          c.raised-self.ensures.value);
      scripted = λ told. subst (λ (xs : List Entry). ∥ IsScripted
          (script now.starts_fail.items now.feeds_fail.items now.seals_fail.items (deeds_of now.acts.items))
          (g.A.Answerer.answers now.answerer) (g.A.Answerer.refuses now.answerer) xs ∥₁)
          (sym is) (∥∥₁_map (now.scripted told) (λ before. (why, before)));
    }

pub invariant_of-self-2 : goal.invariant_of-self-2
unfolding pieces_in outs_in is_started deeds_left failures_in
invariant_of-self-2 g c =
    let now = c.args.self.now in
    let h = now.keeps in
    let ticket = c.args.ticket in
    let is = c.note-2.ensures.entries ∙ ap (λ xs. Entry.Started ticket ∷ xs) c.in-Ok-reserve.ensures.entries in
    let room : length now.log.entries + (length now.roster.marks + 2) ≤ c.reserve-2.new.self.room =
    omega (
      arith,
      ap (λ (xs : List Entry). length xs) c.in-Ok-reserve.ensures.entries,
      c.in-Ok-reserve.ensures.room,
      c.len-out.ensures.value,
    ) in
    let out : c.len-out.result ≡ length (outs_in now.log.entries) = c.len-out.ensures.order
    ∙ ap (λ (ts : List ℕ). length ts) h.order in
    let why : (is_listed now.starts_fail.items ticket ≡ false) × (length (outs_in now.log.entries) < 64) =
    room_and_unlisted (length (outs_in now.log.entries)) (is_listed now.starts_fail.items ticket)
    (ap (λ (n : ℕ). nat_le 64 n || is_listed now.starts_fail.items ticket) (sym out)
    ∙ ap (λ (xs : List ℕ). nat_le 64 c.len-out.result || is_listed xs ticket) (sym c.deref.ensures.value)
    ∙ sym c.start_fails.ensures.value ∙ c.if-start_fails.false) in
    let same = c.in-Ok-reserve-2.ensures.marks in
    let issued : c.join.new.self.issued ≡ now.roster.issued + 1 =
    c.join.ensures.issued ∙ ap (λ (n : ℕ). n + 1) c.in-Ok-reserve-2.ensures.issued in
    let order = c.join.ensures.order ∙ ap (λ (n : ℕ). tickets c.reserve-3.new.self.marks
    ++ n ∷ []) (c.in-Ok-reserve-2.ensures.issued ∙ sym c.requires.next)
    ∙ ap (λ (ts : List ℕ). ts ++ ticket ∷ []) (ap tickets same ∙ h.order) in
    let began = λ (t : ℕ). ap (λ (xs : List ℕ). is_listed xs t)
    (c.push_reserved.ensures.items ∙ ap (λ xs. xs ++ ticket ∷ []) c.in-Ok-reserve-3.ensures.items)
    ∙ listed_push now.started.items ticket t ∙ ap (λ (b : Bool). ticket == t || b) (h.started_is t) in
    record {
      keeps = keeps_with c.join.new.self c.add_ticket-2.new.self now.log.entries c.note-2.new.self
          c.push_reserved.new.self.items (deeds_of now.acts.items) now.done now.faults
          (Entry.Started ticket) is (omega (
            arith,
            room,
            c.note-2.ensures.room,
            c.join.ensures.count,
            ap (λ (ms : List Mark). length ms) same,
          ))
          (omega (
            arith,
            c.add_ticket-2.ensures.count,
            ap (λ (xs : List (List ℕ)). length xs) c.in-Ok.ensures.jobs,
            h.numbered,
            issued,
          ))
          order c.join.ensures.known
          (λ t. c.add_ticket-2.ensures.bytes t ∙ ap (λ (jobs : List (List ℕ)). fed_to jobs t) c.in-Ok.ensures.jobs
          ∙ h.bytes t) began
          (λ t s. elim (was_or_is ticket t (is_started now.log.entries t) s) [
            | inl before ↦ omega (arith, h.issued t before, issued)
            | inr next ↦ omega (arith, next, c.requires.next, issued)
          ]) h.within h.left h.counted;
      scripted = λ told. subst (λ (xs : List Entry). ∥ IsScripted
          (script now.starts_fail.items now.feeds_fail.items now.seals_fail.items (deeds_of now.acts.items))
          (g.A.Answerer.answers now.answerer) (g.A.Answerer.refuses now.answerer) xs ∥₁)
          (sym is) (∥∥₁_map (now.scripted told) (λ before. (why.0, why.1, before)));
    }
