use Rattle.std.proofs.Common.{ℕ}
use Rattle.hash_family.specs.Setting.{setting_of}
use Rattle.sketch_levels.proofs.Layers.{layer_of-none}
use Rattle.sketch_levels.proofs.level.Level.new.Goals as goal

pub returns-clause-empty : goal.returns-clause-empty
returns-clause-empty c = λ (level : ℕ).
    let setting = setting_of c.args.params.now in
    let same = c.in_ok-sketch.ensures.empty setting.seed level in
    let empty = c.in_ok-heap.ensures.empty in
    let join = layer_of-none setting level in
    cc
