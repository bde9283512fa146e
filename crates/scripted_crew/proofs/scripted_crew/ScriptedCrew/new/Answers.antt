use Rattle.std.proofs.Common.{ℕ, ◌-◌, ◌^◌, List, length, sym, ◌∙◌, ap, subst, arith}
use Rattle.std.proofs.lemmas.Bool.{true≢false}
use Rattle.std.specs.Prelude.{min}
use Rattle.crew.specs.Log.{Entry, pieces_in, job_bytes}
use Rattle.roster.specs.declared.mark.Mark.{Mark}
use Rattle.roster.specs.Roster.{tickets}
use Rattle.scripted_crew.specs.Script.{deeds_left, deeds_of, failures_in, is_listed, is_started, IsScripted, outs_in, script}
use Rattle.scripted_crew.proofs.scripted_crew.ScriptedCrew.new.Goals as goal

pub invariant_of-result : goal.invariant_of-result
unfolding pieces_in outs_in is_started deeds_left failures_in is_listed tickets
invariant_of-result g c =
    let empty = c.new-4.ensures.entries in
    record {
      keeps = record {
        sure = omega (
          arith,
          ap (λ (xs : List Entry). length xs) empty,
          ap (λ (ms : List Mark). length ms)
              c.new.ensures.marks,
        );
        numbered = omega (arith, c.new-3.ensures.count, c.new.ensures.issued);
        order = ap tickets c.new.ensures.marks ∙ ap outs_in (sym empty);
        known = c.new.ensures.known;
        bytes = λ t. c.new-3.ensures.bytes t ∙ ap (λ (xs : List Entry). job_bytes xs t) (sym empty);
        started_is = λ t. ap (λ (xs : List ℕ). is_listed xs t) c.new-2.ensures.items
            ∙ ap (λ (xs : List Entry). is_started xs t) (sym empty);
        issued = λ t s. absurd (true≢false (sym s ∙ ap (λ (xs : List Entry). is_started xs t) empty));
        within = omega arith;
        left = ap (deeds_left (deeds_of c.args.acts.items)) (sym empty);
        counted = ap (λ (xs : List Entry). min (failures_in xs) (2 ^ 64 - 1)) (sym empty);
      };
      scripted = λ told. subst (λ (xs : List Entry). ∥ IsScripted
          (script c.args.starts_fail.items c.args.feeds_fail.items c.args.seals_fail.items (deeds_of c.args.acts.items))
          (g.A.Answerer.answers c.args.answerer) (g.A.Answerer.refuses c.args.answerer) xs ∥₁)
          (sym empty) ∣ tt ∣₁;
    }
