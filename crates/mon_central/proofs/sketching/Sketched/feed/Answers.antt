use Rattle.std.proofs.Common.{rules, ◌≡◌, ℕ, ◌+◌, List, length, refl, sym, ◌∙◌, ap, subst}
use Rattle.std.proofs.lemmas.Result.{on_ok_weaker}
use Rattle.spot_table.specs.Live.{IsLiveAt}
use Rattle.mon_central.proofs.Packets.{fed_more, live_at, noted_none, noted_some, counts_in}
use Rattle.mon_central.proofs.sketching.Sketched.feed.Goals as goal

pub returns-in-Some : goal.returns-in-Some
returns-in-Some c =
    let size : length c.count_live.new.live ≡ c.args.self.now.live.len = search rules in
    let wide : length c.count_live.new.weights ≡ c.args.self.now.weights.len = search rules in
    let key = c.args.key.now in
    on_ok_weaker c.note_live.result (λ more setting fed counted feeds.
    let is = live_at key c.feed_by-levels.result feeds c.feed_by-levels.ensures.live in
    let number = ap (λ (l : List ℕ). length l) c.deref_mut.ensures.value ∙ feeds.number in
    let counts = counts_in c.args.self.now.live c.deref_mut.ensures.value size
    (c.count_live.ensures.live setting.seed setting.levels key number is) in
    let weighs = counts_in c.args.self.now.weights c.deref_mut-2.ensures.value wide
    (c.count_live.ensures.weights setting.seed setting.levels key number is) in
    let noted = noted_some setting fed c.in-Some.is feeds.noted in
    let notes = more setting.seed fed c.args.weight
    (subst (λ (top : ℕ). IsLiveAt setting.seed top key c.feed_by-levels.result) (sym noted.1) is) noted.2 in
    fed_more _ key c.args.packets c.args.weight feeds refl c.feed_by-levels.ensures.setting
    (c.feed_by-levels.ensures.list fed) (noted.0, c.note_live.ensures.top ∙ noted.1, notes) counts weighs refl)
    c.note_live.ensures.items

pub returns-in-None : goal.returns-in-None
returns-in-None c =
    let size : length c.count_live.new.live ≡ c.args.self.now.live.len = search rules in
    let wide : length c.count_live.new.weights ≡ c.args.self.now.weights.len = search rules in
    let key = c.args.key.now in
    λ setting fed counted feeds.
    let is = live_at key c.feed_by-levels.result feeds c.feed_by-levels.ensures.live in
    let number = ap (λ (l : List ℕ). length l) c.deref_mut.ensures.value ∙ feeds.number in
    let counts = counts_in c.args.self.now.live c.deref_mut.ensures.value size
    (c.count_live.ensures.live setting.seed setting.levels key number is) in
    let weighs = counts_in c.args.self.now.weights c.deref_mut-2.ensures.value wide
    (c.count_live.ensures.weights setting.seed setting.levels key number is) in
    fed_more _ key c.args.packets c.args.weight feeds refl c.feed_by-levels.ensures.setting
    (c.feed_by-levels.ensures.list fed) (noted_none setting fed _ _ c.in-None.is feeds.noted) counts weighs refl
