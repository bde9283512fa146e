use Rattle.std.proofs.Common.{ℕ, ◌==◌, not, List, ◌∷◌, refl, sym, ◌∙◌, ap, subst}
use Rattle.std.proofs.Math.Logic.{∥∥₁_map}
use Rattle.std.specs.Prelude.{Err, IsErrOf, filter, slice_get}
use Rattle.crew.specs.declared.answerer.AnswerStop.{AnswerStop}
use Rattle.crew.specs.declared.answerer.AnswerStop.TheVariants as stops
use Rattle.crew.specs.Log.{Entry, AreAnswered, pieces_in, job_bytes}
use Rattle.roster.specs.Roster.{tickets}
use Rattle.inline_crew.specs.InOrder.{InOrder, outs_in}
use Rattle.inline_crew.proofs.Keeping.{keeps_left, answered_on}
use Rattle.inline_crew.proofs.inline_crew.InlineCrewSpawner.wait.Goals as goal

pub invariant_of-self : goal.invariant_of-self
invariant_of-self g c = record {
  keeps = c.args.self.now.keeps;
  ordered = c.args.self.now.ordered;
  answered = λ told. ∥∥₁_map (c.args.self.now.answered (sym c.answer.ensures.told ∙ told))
      (answered_on _ _ _ _ c.answer.ensures.stays.forth c.answer.ensures.stays.none c.args.self.now.log.entries);
}

pub invariant_of-self-in-Err-Memory : goal.invariant_of-self-in-Err-Memory
invariant_of-self-in-Err-Memory g c = record {
  keeps = c.args.self.now.keeps;
  ordered = c.args.self.now.ordered;
  answered = λ told. ∥∥₁_map (c.args.self.now.answered (sym c.answer.ensures.told ∙ told))
      (answered_on _ _ _ _ c.answer.ensures.stays.forth c.answer.ensures.stays.none c.args.self.now.log.entries);
}

pub invariant_of-self-in-Err-Fault : goal.invariant_of-self-in-Err-Fault
unfolding pieces_in outs_in
invariant_of-self-in-Err-Fault g c =
    let now = c.args.self.now in
    let ticket = c.oldest-ticket.result in
    let job = c.bytes.ensures.value ∙ now.keeps.bytes ticket c.oldest-ticket.ensures.out in
    let oldest = ap (λ (ts : List ℕ). slice_get ts 0) (sym now.keeps.order) ∙ c.oldest-ticket.ensures.first in
    let order = c.leave-in-Err-Fault.ensures.order ∙ ap (λ (x : ℕ). filter (λ t. not (t == x))
    (tickets now.roster.marks)) (sym c.oldest-ticket.ensures.value)
    ∙ ap (filter (λ t. not (t == ticket))) now.keeps.order in
    let why : IsErrOf c.answer.result stops.Fault = c.in-Err-Fault.is
    ∙ ap (λ (e : AnswerStop). Err e) c.in-Err-Fault.field-0-is in
    record {
      keeps = keeps_left _ _ _ _ _ _ (Entry.Died ticket) _ ticket now.keeps c.leave-in-Err-Fault.ensures.issued
          c.leave-in-Err-Fault.ensures.count c.leave-in-Err-Fault.ensures.out (sym c.oldest-ticket.ensures.value)
          c.forget-in-Err-Fault.ensures.count c.forget-in-Err-Fault.ensures.bytes c.note-in-Err-Fault.ensures.entries
          c.note-in-Err-Fault.ensures.room order (λ t. refl);
      ordered = subst (λ (xs : List Entry). ∥ InOrder xs ∥₁) (sym c.note-in-Err-Fault.ensures.entries)
          (∥∥₁_map now.ordered (λ before. (oldest, before)));
      answered = λ told.
          let was_told = sym c.answer.ensures.told ∙ told in
          let here = subst (λ (xs : List ℕ). g.A.Answerer.refuses now.answerer xs) job
          (c.answer.ensures.refused why was_told) in
          subst (λ (xs : List Entry). ∥ AreAnswered (g.A.Answerer.answers c.answer.new.self)
          (g.A.Answerer.refuses c.answer.new.self) xs ∥₁)
          (sym c.note-in-Err-Fault.ensures.entries) (∥∥₁_map (now.answered was_told) (λ before. (
            c.answer.ensures.stays.none (job_bytes now.log.entries ticket) here,
            answered_on _ _ _ _ c.answer.ensures.stays.forth c.answer.ensures.stays.none now.log.entries before,
          )));
    }

pub invariant_of-self-in-Ok : goal.invariant_of-self-in-Ok
unfolding pieces_in outs_in
invariant_of-self-in-Ok g c =
    let now = c.args.self.now in
    let ticket = c.oldest-ticket.result in
    let bytes = c.answer.new.out.items in
    let entry = c.in_ok-entry-in-Ok.ensures.entry ∙ ap (λ (xs : List ℕ). Entry.Reply ticket xs) c.deref.ensures.value in
    let is = c.note.ensures.entries ∙ ap (λ (e : Entry). e ∷ now.log.entries) entry in
    let job = c.bytes.ensures.value ∙ now.keeps.bytes ticket c.oldest-ticket.ensures.out in
    let oldest = ap (λ (ts : List ℕ). slice_get ts 0) (sym now.keeps.order) ∙ c.oldest-ticket.ensures.first in
    let order = c.leave.ensures.order ∙ ap (λ (x : ℕ). filter (λ t. not (t == x)) (tickets now.roster.marks)) (sym
    c.oldest-ticket.ensures.value)
    ∙ ap (filter (λ t. not (t == ticket))) now.keeps.order in
    record {
      keeps = keeps_left _ _ _ _ _ _ (Entry.Reply ticket bytes) _ ticket now.keeps c.leave.ensures.issued
          c.leave.ensures.count
          c.leave.ensures.out (sym c.oldest-ticket.ensures.value) c.forget.ensures.count c.forget.ensures.bytes is
          c.note.ensures.room order (λ t. refl);
      ordered = subst (λ (xs : List Entry). ∥ InOrder xs ∥₁) (sym is)
          (∥∥₁_map now.ordered (λ before. (oldest, before)));
      answered = λ told.
          let was_told = sym c.answer.ensures.told ∙ told in
          let here = subst (λ (xs : List ℕ). g.A.Answerer.answers now.answerer xs bytes) job
          (c.in-Ok.ensures.answered was_told) in
          subst (λ (xs : List Entry). ∥ AreAnswered (g.A.Answerer.answers c.answer.new.self)
          (g.A.Answerer.refuses c.answer.new.self) xs ∥₁) (sym is)
          (∥∥₁_map (now.answered was_told) (λ before. (
            c.answer.ensures.stays.forth (job_bytes now.log.entries ticket) bytes here,
            answered_on _ _ _ _ c.answer.ensures.stays.forth c.answer.ensures.stays.none now.log.entries before,
          )));
    }
