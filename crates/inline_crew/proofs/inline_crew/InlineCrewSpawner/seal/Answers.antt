use Rattle.std.proofs.Common.{◌+◌, ◌≤◌, List, ◌∷◌, length, refl, sym, ◌∙◌, ap, subst, arith}
use Rattle.crew.specs.Log.{Entry, AreAnswered, pieces_in}
use Rattle.inline_crew.specs.InOrder.{InOrder, outs_in}
use Rattle.inline_crew.proofs.Keeping.{keeps_sealed}
use Rattle.inline_crew.proofs.inline_crew.InlineCrewSpawner.seal.Goals as goal

pub invariant_of-self-2 : goal.invariant_of-self-2
unfolding pieces_in outs_in
invariant_of-self-2 g c =
    let is = c.note.ensures.entries ∙ ap (λ xs. Entry.Sealed c.args.ticket ∷ xs) c.in-Ok.ensures.entries in
    let room : length c.args.self.now.log.entries + (length c.args.self.now.roster.marks + 1) ≤ c.note.new.self.room =
    omega (
      arith,
      ap (λ (xs : List Entry). length xs) c.in-Ok.ensures.entries,
      c.in-Ok.ensures.room,
      c.note.ensures.room,
      c.len.ensures.value,
    ) in
    record {
      keeps = keeps_sealed _ _ _ _ _ (Entry.Sealed c.args.ticket) c.args.self.now.keeps c.seal.ensures.issued
          c.seal.ensures.count
          c.seal.ensures.out is room
          (c.seal.ensures.order ∙ c.args.self.now.keeps.order) (λ t. refl);
      ordered = subst (λ (xs : List Entry). ∥ InOrder xs ∥₁) (sym is) c.args.self.now.ordered;
      answered = λ told. subst (λ (xs : List Entry). ∥ AreAnswered (g.A.Answerer.answers c.args.self.now.answerer)
          (g.A.Answerer.refuses c.args.self.now.answerer) xs ∥₁)
          (sym is) (c.args.self.now.answered told);
    }
