use Rattle.std.proofs.Common.{ℕ, ◌==◌, not, List, sym, ◌∙◌, ap, subst, arith}
use Rattle.std.specs.Prelude.{filter}
use Rattle.crew.specs.Log.{Entry, pieces_in}
use Rattle.roster.specs.Roster.{tickets}
use Rattle.scripted_crew.specs.Script.{deeds_left, deeds_of, failures_in, is_started, IsScripted, outs_in, script}
use Rattle.scripted_crew.proofs.Keeping.{keeps_with}
use Rattle.scripted_crew.proofs.scripted_crew.ScriptedCrewSpawner.stop.Goals as goal

pub invariant_of-self : goal.invariant_of-self
unfolding pieces_in outs_in is_started deeds_left failures_in
invariant_of-self g c =
    let now = c.args.self.now in
    let h = now.keeps in
    let is = c.note.ensures.entries in
    let order = c.leave.ensures.order ∙ ap (λ (x : ℕ). filter (λ t. not (t == x))
    (tickets now.roster.marks)) c.place_of-place.ensures.ticket
    ∙ ap (filter (λ t. not (t == c.args.ticket))) h.order in
    record {
      keeps = keeps_with c.leave.new.self now.fed now.log.entries c.note.new.self now.started.items
          (deeds_of now.acts.items) now.done now.faults
          (Entry.Stopped c.args.ticket) is (omega (arith, h.sure, c.leave.ensures.count, c.note.ensures.room))
          (h.numbered ∙ sym c.leave.ensures.issued) order c.leave.ensures.known h.bytes h.started_is
          (λ t s. omega (arith, h.issued t s, c.leave.ensures.issued)) h.within h.left h.counted;
      scripted = λ told. subst (λ (xs : List Entry). ∥ IsScripted
          (script now.starts_fail.items now.feeds_fail.items now.seals_fail.items (deeds_of now.acts.items))
          (g.A.Answerer.answers now.answerer) (g.A.Answerer.refuses now.answerer) xs ∥₁)
          (sym is) (now.scripted told);
    }
