use Rattle.std.proofs.Common.{◌≡◌, ◌+◌, ℕ, refl, sym, subst, ap, arith}
use Rattle.std.proofs.lemmas.Result.{on_ok_weaker}
use Rattle.spot_table.specs.Live.{IsLiveAt}
use Rattle.sketch_levels.specs.Noted.{HoldsNotes, Noted, TakesKey, notes_of}
use Rattle.sketch_levels.proofs.Noting.{HoldsNotes-taken, live_up_to, notes_of-push}
use Rattle.sketch_levels.proofs.all_keys.AllKeys.note_live.Goals as goal

-- the noted keys before and after the call
abbrev before : goal.After-note_in → Noted
before c = record { top = c.self.inside.top; entries = c.self.inside.highest.entries }

abbrev after : goal.After-note_in → Noted
after c = record { top = c.self.inside.top; entries = c.note_in.new.highest.entries }

-- the number of levels says the highest of them
is_live_at : (c : goal.After-note_in) (seed : ℕ) → IsLiveAt seed c.args.self.now.top c.args.key.now c.args.live
    → IsLiveAt seed c.self.inside.top c.args.key.now (c.min-highest.result + 1)
is_live_at c seed is =
    let top : c.self.inside.top ≡ c.args.self.now.top = ap (λ (noted : Noted). noted.top) c.self.view_is in
    live_up_to seed c.self.inside.top c.args.key.now c.args.live c.min-highest.result
    (λ none. omega (arith, none)) (λ some. omega (arith, some)) (omega arith) (λ below. omega (arith, below))
    (subst (λ (n : ℕ). IsLiveAt seed n c.args.key.now c.args.live) (sym top) is)

taken : (c : goal.After-note_in) (seed : ℕ) → IsLiveAt seed c.args.self.now.top c.args.key.now c.args.live
    → ((top : ℕ) → IsLiveAt seed top c.args.key.now (c.min-highest.result + 1)
    → TakesKey seed top c.args.key.now (before c).entries (after c).entries)
    → TakesKey seed (before c).top c.args.key.now (before c).entries (after c).entries
taken c seed is takes = takes (before c).top (is_live_at c seed is)

pub returns-clause-notes : goal.returns-clause-notes
returns-clause-notes c = on_ok_weaker c.note_in.result
    (λ takes seed notes is holds.
    HoldsNotes-taken seed c.args.key.now (before c) (after c) notes refl (taken c seed is (takes seed))
    (subst (λ (noted : Noted). HoldsNotes noted notes) (sym c.self.view_is) holds))
    c.note_in.ensures.taken

pub returns-clause-items : goal.returns-clause-items
returns-clause-items c = on_ok_weaker c.note_in.result
    (λ takes seed items weight is holds.
    let notes = notes_of seed items in
    rw (notes_of-push seed items (record { key = c.args.key.now; weight = weight }))
    (HoldsNotes-taken seed c.args.key.now (before c) (after c) notes refl (taken c seed is (takes seed))
    (subst (λ (noted : Noted). HoldsNotes noted notes) (sym c.self.view_is) holds)))
    c.note_in.ensures.taken
