use Rattle.std.proofs.Common.{◌≡◌, ℕ, List, drop, length, arith, sym, ◌∙◌, ap}
use Rattle.std.specs.Prelude.{slice_get}
use Rattle.scripted_crew.specs.Script.{Deed, deed_of, deeds_of, from_started, is_listed, ticket_of}
use Rattle.scripted_crew.specs.declared.act.Act.{Act}
use Rattle.scripted_crew.proofs.Deeds.{from_passes, from_place, from_next, from_past}
use Rattle.scripted_crew.proofs.act.next_act.Goals as goal

pub returns-then-is_listed-clause-value : goal.returns-then-is_listed-clause-value
returns-then-is_listed-clause-value c =
    let named = c.ticket.ensures.value ∙ ap (λ (a : Act). ticket_of (deed_of a)) c.index-acts-place.is in
    let passes = ap (is_listed c.args.started.now) (sym named) ∙ sym c.is_listed.ensures.value ∙ c.if-is_listed.true in
    sym (c.loop-place.invariant ∙ from_place _ _ _ _ (omega (arith, c.loop-place-test.true)) passes)

pub loop-place-preserved : goal.loop-place-preserved
loop-place-preserved c =
    let named = c.ticket.ensures.value ∙ ap (λ (a : Act). ticket_of (deed_of a)) c.index-acts-place.is in
    let fails = ap (is_listed c.args.started.now) (sym named) ∙ sym c.is_listed.ensures.value ∙ c.if-is_listed.false in
    c.loop-place.invariant ∙ from_next _ _ _ _ (omega (arith, c.loop-place-test.true)) fails

pub returns-clause-value : goal.returns-clause-value
returns-clause-value c =
    let last : c.loop-place.place ≡ length c.args.acts.now =
    omega (arith, c.loop-place-test.false, c.loop-place.auto.place-end c.requires.within) in
    sym (c.loop-place.invariant ∙ ap (λ (k : ℕ). from_started (is_listed c.args.started.now)
    (drop k (deeds_of c.args.acts.now))) last
    ∙ from_past _ c.args.acts.now (length c.args.acts.now) (omega arith))

pub returns-then-is_listed-clause-started : goal.returns-then-is_listed-clause-started
returns-then-is_listed-clause-started c deed found =
    from_passes (is_listed c.args.started.now) (drop c.args.done (deeds_of c.args.acts.now)) deed
    (ap (λ (deeds : List Deed). slice_get deeds 0) (sym (returns-then-is_listed-clause-value c)) ∙ found)

pub returns-clause-started : goal.returns-clause-started
returns-clause-started c deed found =
    from_passes (is_listed c.args.started.now) (drop c.args.done (deeds_of c.args.acts.now)) deed
    (ap (λ (deeds : List Deed). slice_get deeds 0) (sym (returns-clause-value c)) ∙ found)
