use Rattle.std.proofs.Common.{refl, sym, subst}
use Rattle.std.proofs.lemmas.Result.{on_ok_weaker}
use Rattle.sketch_levels.specs.Noted.{HoldsNotes, Noted, notes_of}
use Rattle.sketch_levels.proofs.Noting.{HoldsNotes-taken, notes_of-push}
use Rattle.sketch_levels.proofs.all_keys.AllKeys.note.Goals as goal

-- the noted keys before and after the call
abbrev before : goal.After-note_in → Noted
before c = record { top = c.self.inside.top; entries = c.self.inside.highest.entries }

abbrev after : goal.After-note_in → Noted
after c = record { top = c.self.inside.top; entries = c.note_in.new.highest.entries }

pub returns-clause-notes : goal.returns-clause-notes
returns-clause-notes c = on_ok_weaker c.note_in.result
    (λ takes notes holds.
    HoldsNotes-taken c.args.family.now c.args.key.now (before c) (after c) notes refl
    (takes c.args.family.now c.self.inside.top c.highest_live-highest.ensures.live)
    (subst (λ (noted : Noted). HoldsNotes noted notes) (sym c.self.view_is) holds))
    c.note_in.ensures.taken

pub returns-clause-items : goal.returns-clause-items
returns-clause-items c = on_ok_weaker c.note_in.result
    (λ takes items weight holds.
    let notes = notes_of c.args.family.now items in
    rw (notes_of-push c.args.family.now items (record { key = c.args.key.now; weight = weight }))
    (HoldsNotes-taken c.args.family.now c.args.key.now (before c) (after c) notes refl
    (takes c.args.family.now c.self.inside.top c.highest_live-highest.ensures.live)
    (subst (λ (noted : Noted). HoldsNotes noted notes) (sym c.self.view_is) holds)))
    c.note_in.ensures.taken
