use Rattle.std.proofs.Common.{map, ◌∙◌, ap, List}
use Rattle.std.proofs.lemmas.Result.{IfOk-weaker}
use Rattle.topk_heap.specs.declared.entry.Entry.{Entry}
use Rattle.sketch_levels.specs.Kept.{kept_keys}
use Rattle.sketch_levels.specs.Levels.{Layer, heap_keys}
use Rattle.sketch_levels.proofs.Holding.{entries_held}
use Rattle.sketch_levels.proofs.levels.Levels.keys.Goals as goal

pub returns-clause-value : goal.returns-clause-value
unfolding heap_keys
returns-clause-value c = IfOk-weaker c.keys.result _ _
    (λ keys value. value ∙ ap (λ (l : Layer). map (λ (e : Entry). e.key) l.heap.entries) c.level.ensures.value)
    c.keys.ensures.value

pub returns-clause-list : goal.returns-clause-list
unfolding kept_keys
returns-clause-list c = IfOk-weaker c.keys.result _ _
    (λ keys value items holds.
    value
    ∙ ap (λ (l : Layer). map (λ (e : Entry). e.key) l.heap.entries) c.level.ensures.value
    ∙ ap (λ (entries : List Entry). map (λ (e : Entry). e.key) entries) (entries_held holds _ c.requires))
    c.keys.ensures.value
