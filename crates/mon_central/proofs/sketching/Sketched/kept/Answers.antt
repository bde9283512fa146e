use Rattle.std.proofs.Common.{ℕ, ◌≤◌, List, length, ◌∙◌, ap, subst, sym, arith}
use Rattle.hash_family.specs.Setting as sketch
use Rattle.sketch_levels.specs.Kept as levels
use Rattle.sketch_levels.specs.Items.{live_items}
use Rattle.sketch_levels.proofs.Standing.{keys-same}
use Rattle.count_sketch.specs.Counters.{Item}
use Rattle.mon_central.specs.Central.{levels_setting}
use Rattle.mon_central.proofs.Kept.{few_live}
use Rattle.mon_central.proofs.Packets.{kept_all, kept_heap, noted_some, noted_nothing}
use Rattle.mon_central.proofs.Ranges.{if_ok_weaker}
use Rattle.mon_central.proofs.sketching.Sketched.kept.Goals as goal

pub returns-in-Some-clause-value : goal.returns-in-Some-clause-value
returns-in-Some-clause-value c = if_ok_weaker c.keys.result (λ keys all items sketches.
    let setting = c.args.setting.now in
    let noted = noted_some setting sketches.fed c.in-Some.is sketches.feeds.noted in
    all setting.seed sketches.fed noted.2
    ∙ keys-same sketches.fed items sketches.weigh setting.seed c.args.level
    ∙ kept_all setting c.args.level (live_items setting.seed c.args.level items) noted.0)
    c.keys.ensures.items

pub returns-in-Some-clause-few : goal.returns-in-Some-clause-few
returns-in-Some-clause-few c =
    let sketch = c.requires.sketch in
    let fed = sketch.sketches.fed in
    if_ok_weaker c.keys.result (λ keys all.
    let setting = c.args.setting.now in
    let noted = noted_some setting fed c.in-Some.is sketch.sketches.feeds.noted in
    subst (λ (l : List (List ℕ)). length l ≤ 1048576) (sym (all setting.seed fed noted.2
    ∙ keys-same fed sketch.items sketch.sketches.weigh setting.seed c.args.level))
    (omega (arith, few_live setting.seed c.args.level sketch.items, sketch.few))) c.keys.ensures.items

pub returns-in-None-clause-value : goal.returns-in-None-clause-value
returns-in-None-clause-value c = if_ok_weaker c.keys-in-None.result (λ keys all items sketches.
    let setting = c.args.setting.now in
    let none = noted_nothing setting sketches.fed c.in-None.is sketches.feeds.noted in
    all sketches.fed sketches.feeds.holds
    ∙ ap (λ (s : sketch.Setting). levels.kept_keys s c.args.level (live_items s.seed c.args.level sketches.fed))
    sketches.feeds.shape
    ∙ ap (λ (l : List Item). levels.kept_keys (levels_setting setting) c.args.level
    (live_items setting.seed c.args.level l)) (sketches.same none)
    ∙ kept_heap setting c.args.level (live_items setting.seed c.args.level items) none) c.keys-in-None.ensures.list
