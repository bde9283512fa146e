use Rattle.std.proofs.Common.{◌+◌, ◌≤◌, List, ◌∷◌, length, sym, ◌∙◌, ap, subst, arith}
use Rattle.crew.specs.Log.{Entry, AreAnswered}
use Rattle.inline_crew.specs.InOrder.{InOrder}
use Rattle.inline_crew.proofs.Keeping.{keeps_fed}
use Rattle.inline_crew.proofs.inline_crew.InlineCrewSpawner.feed.Goals as goal

pub invariant_of-self-2 : goal.invariant_of-self-2
invariant_of-self-2 g c =
    let is = c.note.ensures.entries ∙ ap (λ (e : Entry). e ∷ c.reserve.new.self.entries) c.in-Ok.ensures.entry
    ∙ ap (λ xs. Entry.Fed c.args.ticket c.args.piece.now ∷ xs) c.in-Ok-reserve.ensures.entries in
    let room : length c.args.self.now.log.entries + (length c.args.self.now.roster.marks + 1) ≤ c.note.new.self.room =
    omega (
      arith,
      ap (λ (xs : List Entry). length xs) c.in-Ok-reserve.ensures.entries,
      c.in-Ok-reserve.ensures.room,
      c.note.ensures.room,
      c.len.ensures.value,
    ) in
    record {
      keeps = keeps_fed _ _ _ _ _ c.args.ticket c.args.piece.now c.args.self.now.keeps c.requires.out
          c.in-Ok-append.ensures.count
          c.in-Ok-append.ensures.bytes is room;
      ordered = subst (λ (xs : List Entry). ∥ InOrder xs ∥₁) (sym is) c.args.self.now.ordered;
      answered = λ told. subst (λ (xs : List Entry). ∥ AreAnswered (g.A.Answerer.answers c.args.self.now.answerer)
          (g.A.Answerer.refuses c.args.self.now.answerer) xs ∥₁)
          (sym is) (c.args.self.now.answered told);
    }
