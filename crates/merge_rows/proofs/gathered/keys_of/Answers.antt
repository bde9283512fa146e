use Rattle.std.proofs.Common.{◌≤◌, ℕ, List, Vec, Global, length}
use Rattle.std.proofs.lemmas.List.Elements.{All-map}
use Rattle.flow_keys.specs.declared.key.FlowKey.{FlowKey}
use Rattle.merge_rows.proofs.gathered.keys_of.Goals as goal

pub returns-clause-few : goal.returns-clause-few
returns-clause-few g c = record {
  each = All-map (λ (keys : List (List ℕ)). length keys ≤ 1048576) (λ (level : Vec FlowKey Global). level.items)
      c.loop-level.keys.items c.loop-level.invariant.2;
}
