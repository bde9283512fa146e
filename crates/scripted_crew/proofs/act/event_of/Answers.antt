use Rattle.std.proofs.Common.{◌≡◌, true, Option, Some, refl, sym, ◌∙◌, ap, subst, arith}
use Rattle.std.specs.Prelude.{IfOk}
use Rattle.crew.specs.declared.event.Event.TheVariants as events
use Rattle.scripted_crew.specs.Gives.{Gives}
use Rattle.scripted_crew.specs.Script.{Deed, deed_of}
use Rattle.scripted_crew.specs.declared.act.Act.{Act}
use Rattle.scripted_crew.proofs.Deeds.{deed_here, deed_past}
use Rattle.scripted_crew.proofs.act.event_of.Goals as goal

pub returns-then-place-acts-clause-gives : goal.returns-then-place-acts-clause-gives
returns-then-place-acts-clause-gives g c =
    subst (λ (o : Option Deed). IfOk c.answer_event.result
    (λ event. (g.A.Answerer.state c.args.answerer.now).is_told ≡ true
    → Gives (g.A.Answerer.answers c.args.answerer.now) (g.A.Answerer.refuses c.args.answerer.now) o c.args.oldest
    c.args.fed.now.jobs event))
    (sym (deed_past c.args.acts.now c.args.place (omega (arith, c.if-place-acts.true)))) c.answer_event.ensures.gives

pub answer_event-requires-in-Reply : goal.answer_event-requires-in-Reply
answer_event-requires-in-Reply g c = record {
  known = c.requires.known (Deed.Answer c.in-Reply.ticket)
      (deed_here c.args.acts.now c.args.place _ _ (omega (arith, c.if-place-acts.false)) c.index-acts-place.is
      ∙ ap (λ (a : Act). Some (deed_of a)) c.in-Reply.is);
}

pub returns-in-Reply-clause-gives : goal.returns-in-Reply-clause-gives
returns-in-Reply-clause-gives g c =
    let here = deed_here c.args.acts.now c.args.place _ _ (omega (arith, c.if-place-acts.false)) c.index-acts-place.is
    ∙ ap (λ (a : Act). Some (deed_of a)) c.in-Reply.is in
    subst (λ (o : Option Deed). IfOk c.answer_event-in-Reply.result
    (λ event. (g.A.Answerer.state c.args.answerer.now).is_told ≡ true
    → Gives (g.A.Answerer.answers c.args.answerer.now) (g.A.Answerer.refuses c.args.answerer.now) o c.args.oldest
    c.args.fed.now.jobs event))
    (sym here) c.answer_event-in-Reply.ensures.gives

pub returns-in-Die-clause-gives : goal.returns-in-Die-clause-gives
returns-in-Die-clause-gives g c told =
    let here = deed_here c.args.acts.now c.args.place _ _ (omega (arith, c.if-place-acts.false)) c.index-acts-place.is
    ∙ ap (λ (a : Act). Some (deed_of a)) c.in-Die.is in
    subst (λ (o : Option Deed). Gives (g.A.Answerer.answers c.args.answerer.now)
    (g.A.Answerer.refuses c.args.answerer.now) o c.args.oldest c.args.fed.now.jobs (events.Died c.in-Die.ticket))
    (sym here) refl

pub returns-in_ok-bytes-in-Bytes-clause-gives : goal.returns-in_ok-bytes-in-Bytes-clause-gives
returns-in_ok-bytes-in-Bytes-clause-gives g c told =
    let here = deed_here c.args.acts.now c.args.place _ _ (omega (arith, c.if-place-acts.false)) c.index-acts-place.is
    ∙ ap (λ (a : Act). Some (deed_of a)) c.in-Bytes.is in
    subst (λ (o : Option Deed). Gives (g.A.Answerer.answers c.args.answerer.now)
    (g.A.Answerer.refuses c.args.answerer.now) o c.args.oldest c.args.fed.now.jobs
    (events.Reply c.in-Bytes.ticket c.in_ok-bytes-in-Bytes.bytes))
    (sym here) (refl, c.in_ok-bytes-in-Bytes.ensures.items ∙ c.deref.ensures.value)
