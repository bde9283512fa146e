use Rattle.std.proofs.Common.{ℕ, ◌+◌, List, length, refl, ◌∙◌, ap}
use Rattle.std.proofs.lemmas.List.{length-replicate}
use Rattle.mon_central.proofs.Packets.{noted_first, nothing_noted, weighed_first}
use Rattle.mon_central.proofs.sketching.Sketched.new.Goals as goal
use Rattle.mon_central.proofs.sketching.Sketched.new.Goals.{then-setting-eq0+in_ok-new, else-setting-eq0}

pub returns : goal.returns
returns c = record {
  family = c.in_ok-family.ensures.value;
  shape = c.in_ok-levels.ensures.setting ∙ c.params_of.ensures;
  holds = c.in_ok-levels.ensures.empty;
  noted = elim c.if-setting-eq0.branch [
    | then-setting-eq0+in_ok-new w ↦ noted_first c.args.setting.now _ _ w.all-is w.if-setting-eq0.true
        w.in_ok-new.ensures.top w.in_ok-new.ensures.empty
    | else-setting-eq0 w ↦ nothing_noted c.args.setting.now _ w.all-is w.if-setting-eq0.false
  ];
  number = ap (λ (l : List ℕ). length l) c.in_ok-live.ensures ∙ length-replicate {A = ℕ} (c.from.result + 1) 0
      ∙ ap (λ (n : ℕ). n + 1) c.from.ensures;
  live = weighed_first c.args.setting.now.seed _ _ c.in_ok-live.ensures;
  size = ap (λ (l : List ℕ). length l) c.in_ok-weights.ensures ∙ length-replicate {A = ℕ} (c.from-2.result + 1) 0
      ∙ ap (λ (n : ℕ). n + 1) c.from-2.ensures;
  weights = weighed_first c.args.setting.now.seed _ _ c.in_ok-weights.ensures;
  number_is = refl;
}
