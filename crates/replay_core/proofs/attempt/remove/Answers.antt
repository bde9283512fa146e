use Rattle.std.proofs.Common.{◌==◌, sym, ◌∙◌, ap, length, nat_lt, rules}
use Rattle.std.specs.Prelude.{List, remove, position}
use Rattle.std.specs.List.{position_or_len}
use Rattle.std.proofs.lemmas.Bool.{ltb-true, ltb-false}
use Rattle.std.proofs.lemmas.Option.{cond_some}
use Rattle.replay_core.specs.declared.attempt.Attempt.{Attempt}
use Rattle.replay_core.proofs.Attempts.{without-at, without-nowhere, cond_none}
use Rattle.replay_core.proofs.attempt.remove.Goals as goal

pub returns-in-Some : goal.returns-in-Some
returns-in-Some c =
    let outs = c.args.outs.now.items in
    let first = position_or_len (λ (a : Attempt). a.ticket == c.args.ticket) outs in
    let same = ap (λ (xs : List Attempt). position (λ (a : Attempt). a.ticket == c.args.ticket) xs)
    (sym c.deref.ensures.value) in
    let parts = cond_some (nat_lt first (length outs)) first c.in-Some.place (same ∙ sym c.in-Some.ensures.value) in
    record {
      items = c.remove.ensures.items ∙ ap (λ k. remove outs k) (sym parts.1)
          ∙ without-at outs c.args.ticket (ltb-true first (length outs) parts.0);
      capacity = search rules;
    }

pub returns-in_default : goal.returns-in_default
returns-in_default c =
    let outs = c.args.outs.now.items in
    let first = position_or_len (λ (a : Attempt). a.ticket == c.args.ticket) outs in
    let same = ap (λ (xs : List Attempt). position (λ (a : Attempt). a.ticket == c.args.ticket) xs)
    c.deref.ensures.value in
    record {
      items = without-nowhere outs c.args.ticket
          (ltb-false first (length outs) (cond_none (nat_lt first (length outs)) first c.place_of.result
          (c.place_of.ensures.value ∙ same) c.in_default.not-Some));
      capacity = search rules;
    }
