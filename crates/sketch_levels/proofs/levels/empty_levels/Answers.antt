use Rattle.std.proofs.Common.{◌≡◌, ℕ, [], ◌∷◌, ◌++◌, arith, rules, length-append}
use Rattle.std.proofs.lemmas.List.Elements.{All-push}
use Rattle.hash_family.specs.Setting.{setting_of}
use Rattle.sketch_levels.specs.Levels.{Layer, IsLayer, layer_of}
use Rattle.sketch_levels.proofs.levels.empty_levels.Goals as goal

pub loop-preserved : goal.loop-preserved
loop-preserved c =
    let setting = setting_of c.args.params.now in
    let P : Layer → Type 0 = λ layer. (level : ℕ) → layer ≡ layer_of setting level [] in
    let items : c.push.new.self.items ≡ c.loop.levels.items ++ c.in_ok-level.level ∷ [] = search rules in
    record {
      number = rw items
          (omega (arith, length-append c.loop.levels.items (c.in_ok-level.level ∷ []), c.loop.invariant.number));
      empty = rw items (All-push P c.loop.levels.items c.in_ok-level.level c.loop.invariant.empty
          c.in_ok-level.ensures.empty);
      shape = rw items (All-push
          (IsLayer setting 0) c.loop.levels.items c.in_ok-level.level c.loop.invariant.shape
          c.in_ok-level.ensures.shape);
    }
