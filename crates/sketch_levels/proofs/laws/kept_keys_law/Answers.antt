use Rattle.std.proofs.Common.{◌∙◌, ap}
use Rattle.sketch_levels.specs.Items.{live_items}
use Rattle.sketch_levels.specs.Kept.{kept}
use Rattle.sketch_levels.proofs.Kept.{kept-none, kept-push, none_dropped, scores}
use Rattle.sketch_levels.proofs.Live.{live_items-dead, live_items-live, live_items-none}
use Rattle.sketch_levels.proofs.laws.kept_keys_law.Goals as goal

pub returns-clause-none : goal.returns-clause-none
returns-clause-none c =
    λ setting level. ap (kept setting level) (live_items-none setting.seed level) ∙ kept-none setting level

pub returns-clause-live : goal.returns-clause-live
returns-clause-live c = λ setting level items item live.
    let more = live_items-live setting.seed level items item live in
    rw more (kept-push setting level (live_items setting.seed level items) item)

pub returns-clause-dead : goal.returns-clause-dead
returns-clause-dead c = λ setting level items item dead.
    ap (kept setting level) (live_items-dead setting.seed level items item dead)

pub returns-clause-scores : goal.returns-clause-scores
returns-clause-scores c = scores

pub returns-clause-all : goal.returns-clause-all
returns-clause-all c = λ setting level items none. none_dropped setting level (live_items setting.seed level items) none
