use Rattle.std.proofs.Common.{◌≡◌, ℕ, ◌+◌, ◌≤◌, ◌==◌, ◌||◌, List, [], ◌∷◌, ◌++◌, length, refl, sym, ◌∙◌, ap, subst, arith}
use Rattle.std.proofs.Math.Logic.{∥∥₁_map}
use Rattle.crew.specs.Log.{Entry, AreAnswered, pieces_in}
use Rattle.roster.specs.declared.mark.Mark.{Mark}
use Rattle.roster.specs.Fed.{fed_to}
use Rattle.roster.specs.Roster.{is_out, tickets}
use Rattle.inline_crew.specs.InOrder.{InOrder, outs_in}
use Rattle.inline_crew.proofs.Keeping.{keeps_joined, keeps_passed}
use Rattle.inline_crew.proofs.inline_crew.InlineCrewSpawner.start.Goals as goal

pub invariant_of-self-then-out-ge-PLACES : goal.invariant_of-self-then-out-ge-PLACES
unfolding pieces_in outs_in
invariant_of-self-then-out-ge-PLACES g c =
    let is = c.note.ensures.entries ∙ ap (λ xs. Entry.StartFailed c.args.ticket ∷ xs) c.in-Ok-reserve.ensures.entries in
    let count : length c.add_ticket.new.self.jobs ≡ length c.args.self.now.fed.jobs + 1 =
    omega (arith, c.add_ticket.ensures.count, ap (λ (xs : List (List ℕ)). length xs) c.in-Ok.ensures.jobs) in
    let bytes = λ (t : ℕ). c.add_ticket.ensures.bytes t
    ∙ ap (λ (jobs : List (List ℕ)). fed_to jobs t) c.in-Ok.ensures.jobs in
    let room : length c.args.self.now.log.entries + (length c.args.self.now.roster.marks + 2) ≤ c.note.new.self.room =
    omega (
      arith,
      ap (λ (xs : List Entry). length xs) c.in-Ok-reserve.ensures.entries,
      c.in-Ok-reserve.ensures.room,
      c.note.ensures.room,
      c.len-out.ensures.value,
    ) in
    record {
      keeps = keeps_passed _ _ _ _ _ _ (Entry.StartFailed c.args.ticket) c.args.self.now.keeps c.pass.ensures.issued
          c.pass.ensures.marks
          count bytes is room (ap tickets c.pass.ensures.marks ∙ c.args.self.now.keeps.order) (λ t. refl);
      ordered = subst (λ (xs : List Entry). ∥ InOrder xs ∥₁) (sym is) (∥∥₁_map c.args.self.now.ordered (λ before. (
        omega (
          arith,
          c.if-out-ge-PLACES.true,
          c.len-out.ensures.order,
          ap (λ (ts : List ℕ). length ts)
              c.args.self.now.keeps.order,
        ),
        before,
      )));
      answered = λ told. subst (λ (xs : List Entry). ∥ AreAnswered (g.A.Answerer.answers c.args.self.now.answerer)
          (g.A.Answerer.refuses c.args.self.now.answerer) xs ∥₁)
          (sym is) (c.args.self.now.answered told);
    }

pub invariant_of-self-2 : goal.invariant_of-self-2
unfolding pieces_in outs_in
invariant_of-self-2 g c =
    let is = c.note-2.ensures.entries ∙ ap (λ xs. Entry.Started c.args.ticket ∷ xs) c.in-Ok-reserve.ensures.entries in
    let same = c.in-Ok-reserve-2.ensures.marks in
    let issued = c.join.ensures.issued ∙ ap (λ (n : ℕ). n + 1) c.in-Ok-reserve-2.ensures.issued in
    let more : length c.join.new.self.marks ≡ length c.args.self.now.roster.marks + 1 =
    omega (arith, c.join.ensures.count, ap (λ (ms : List Mark). length ms) same) in
    let outs = λ (t : ℕ). c.join.ensures.out t ∙ ap (λ (n : ℕ). t == n || is_out c.reserve-3.new.self.marks
    t) c.in-Ok-reserve-2.ensures.issued
    ∙ ap (λ (ms : List Mark). t == c.args.self.now.roster.issued || is_out ms t) same in
    let count : length c.add_ticket-2.new.self.jobs ≡ length c.args.self.now.fed.jobs + 1 =
    omega (arith, c.add_ticket-2.ensures.count, ap (λ (xs : List (List ℕ)). length xs) c.in-Ok.ensures.jobs) in
    let bytes = λ (t : ℕ). c.add_ticket-2.ensures.bytes t
    ∙ ap (λ (jobs : List (List ℕ)). fed_to jobs t) c.in-Ok.ensures.jobs in
    let room : length c.args.self.now.log.entries + (length c.args.self.now.roster.marks + 2) ≤ c.note-2.new.self.room =
    omega (
      arith,
      ap (λ (xs : List Entry). length xs) c.in-Ok-reserve.ensures.entries,
      c.in-Ok-reserve.ensures.room,
      c.note-2.ensures.room,
      c.len-out.ensures.value,
    ) in
    let order : tickets c.join.new.self.marks ≡ outs_in (Entry.Started c.args.ticket ∷ c.args.self.now.log.entries) =
    c.join.ensures.order ∙ ap (λ (n : ℕ). tickets c.reserve-3.new.self.marks ++ n ∷ [])
    (c.in-Ok-reserve-2.ensures.issued ∙ sym c.requires.next)
    ∙ ap (λ (ts : List ℕ). ts ++ c.args.ticket ∷ []) (ap tickets same ∙ c.args.self.now.keeps.order) in
    record {
      keeps = keeps_joined _ _ _ _ _ _ (Entry.Started c.args.ticket) c.args.self.now.keeps issued more outs count bytes
          is room order (λ t. refl);
      ordered = subst (λ (xs : List Entry). ∥ InOrder xs ∥₁) (sym is) (∥∥₁_map c.args.self.now.ordered (λ before. (
        omega (
          arith,
          c.if-out-ge-PLACES.false,
          c.len-out.ensures.order,
          ap (λ (ts : List ℕ). length ts)
              c.args.self.now.keeps.order,
        ),
        before,
      )));
      answered = λ told. subst (λ (xs : List Entry). ∥ AreAnswered (g.A.Answerer.answers c.args.self.now.answerer)
          (g.A.Answerer.refuses c.args.self.now.answerer) xs ∥₁)
          (sym is) (c.args.self.now.answered told);
    }
