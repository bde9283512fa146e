use Rattle.std.proofs.Common.{◌≡◌, ◌^◌, ℕ, ℤ, ◌+◌, ◌*◌, ◌<◌, ◌≤◌, [], length, get_or, take, drop, sym, ◌∙◌}
use Rattle.std.proofs.Common.{ap, subst, arith, unsigned_abs}
use Rattle.std.proofs.lemmas.List.{length-drop, length-take-le}
use Rattle.std.proofs.lemmas.List.Elements.{All-drop, All-take}
use Rattle.count_sketch.specs.Counters.{AllUpTo}
use Rattle.sketch_merge.specs.Merged.{View, counters_at}
use Rattle.sketch_merge.proofs.LevelLists.{level-levels_of, level_room}
use Rattle.sketch_merge.proofs.Views.{few_counters}
use Rattle.sketch_merge.proofs.merged.Merged.counters.Goals as goal
use Rattle.sketch_merge.proofs.merged.Merged.counters.Goals.{After-level_of}

-- the level is one of those that are stored
within : (c : After-level_of) → c.args.level < c.self.inside.params.levels + 1
within c = omega (arith, ap (λ (v : View). v.setting.levels) c.self.view_is, c.requires)

-- the part of the counters that is lent
lent : (c : After-level_of) → c.level_of.result.now
    ≡ take (c.self.inside.params.rows * c.self.inside.params.width)
    (drop (c.args.level * (c.self.inside.params.rows * c.self.inside.params.width)) c.self.inside.counters.items)
lent c =
    rw (c.from.ensures, c.from-2.ensures, c.from-3.ensures, c.deref.ensures.value) at c.level_of.ensures.value

pub returns-clause-value : goal.returns-clause-value
unfolding counters_at
returns-clause-value c =
    let params = c.self.inside.params in
    lent c
    ∙ sym (level-levels_of (params.levels + 1) (params.rows * params.width) c.args.level c.self.inside.counters.items
    (within c))
    ∙ ap (λ (v : View). get_or v.counters c.args.level []) c.self.view_is

size : (c : After-level_of)
    → length c.level_of.result.now ≡ c.self.inside.params.rows * c.self.inside.params.width
size c =
    let params = c.self.inside.params in
    let each : ℕ = params.rows * params.width in
    let items = c.self.inside.counters.items in
    let room = level_room c.args.level (params.levels + 1) each (within c) in
    ap length (lent c)
    ∙ length-take-le each (drop (c.args.level * each) items)
    (omega (arith, room, c.self.invariant.number, length-drop (c.args.level * each) items))

pub returns-clause-shape : goal.returns-clause-shape
returns-clause-shape c = size c ∙ ap (λ (v : View). v.setting.rows * v.setting.width) c.self.view_is

pub returns-clause-few : goal.returns-clause-few
returns-clause-few c =
    let params = c.self.inside.params in
    let few : params.rows * params.width ≤ 14336 =
    few_counters params.levels params.rows params.width params.heap c.self.invariant.within in
    omega (arith, few, size c)

pub returns-clause-bound : goal.returns-clause-bound
returns-clause-bound c =
    let params = c.self.inside.params in
    let each : ℕ = params.rows * params.width in
    let items = c.self.inside.counters.items in
    let Small : ℤ → Type 0 = λ value. unsigned_abs value ≤ 2 ^ 45 in
    subst (AllUpTo (2 ^ 45)) (sym (lent c)) (record {
      each = All-take Small each (drop (c.args.level * each) items)
          (All-drop Small (c.args.level * each) items c.self.invariant.small.each);
    })
