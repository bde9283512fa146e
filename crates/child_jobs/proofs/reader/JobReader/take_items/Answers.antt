use Rattle.std.proofs.Common.{◌≡◌, ◌<◌, ◌≤◌, ◌==◌, ℕ, true, length, refl, sym, subst, arith}
use Rattle.job_format.specs.Places.{place_size}
use Rattle.job_format.specs.Rooms.{has_room}
use Rattle.job_format.specs.declared.place.Place.{Place}
use Rattle.child_jobs.specs.Rooms.{HasRoom}
use Rattle.child_jobs.proofs.Frames.{few_in_frame, frame_moves, none_read, room_in_frame, some_in_frame, via_in_frame}
use Rattle.child_jobs.proofs.Moves.{stays}
use Rattle.child_jobs.proofs.reader.JobReader.take_items.Goals as goal

pub returns-in_default : goal.returns-in_default
returns-in_default c = record {
  moves = stays c.args.self.now c.requires.going c.requires.within;
  bound = omega arith;
  within = λ none. c.requires.within;
  start = c.requires.start;
}

pub invariant_of-self : goal.invariant_of-self
invariant_of-self c =
    let r = c.args.self.now in
    let run = c.read_items-run.result in
    let h = c.in-Key.numbers in
    let tally = c.in-Key.tally in
    let there = sym c.place_in_frame-self.ensures in
    record {
      room =
          subst (λ (p : Place). HasRoom p (run.left == 0) (length c.read_items-run.new.frame.items)
          (length r.sites.items) (length r.needs.items)) there
          (room_in_frame r h tally c.in-Key.left c.requires.within c.in-Key.is run.weight run.left
          (length c.read_items-run.new.frame.items) c.read_items-run.ensures.few);
      via =
          subst (λ (p : Place). has_room p ≡ true) there
          (via_in_frame r h tally c.in-Key.left c.requires.within c.in-Key.is run.weight run.left);
      frame_room = c.read_items-run.ensures.room;
      site_room = r.site_room;
      need_room = r.need_room;
      short =
          subst (λ (n : ℕ). n < place_size c.place_in_frame-self.result) (sym c.requires.start)
          (subst (λ (p : Place). 0 < place_size p) there
          (some_in_frame r h tally c.in-Key.left c.requires.within c.in-Key.is run.weight run.left));
      held_room =
          subst (λ (p : Place). place_size p ≤ 44) there
          (few_in_frame r h tally c.in-Key.left c.requires.within c.in-Key.is run.weight run.left);
    }

pub returns-clause-moves : goal.returns-clause-moves
returns-clause-moves c =
    let run = c.read_items-run.result in
    frame_moves c.args.self.now c.in-Key.numbers c.in-Key.tally c.in-Key.left c.requires.within c.in-Key.is _ run.weight
    run.left _ c.requires.going c.requires.start refl c.requires.start c.place_in_frame-self.ensures refl refl
    (c.read_items-run.ensures.reads c.in-Key.numbers c.in-Key.tally.items)

pub returns-clause-within : goal.returns-clause-within
returns-clause-within c none =
    let run = c.read_items-run.result in
    none_read c.args.self.now c.in-Key.numbers c.in-Key.tally c.in-Key.left c.requires.within c.in-Key.is run.weight
    run.left run.taken c.args.piece.now c.read_items-run.new.frame.items none
    (c.read_items-run.ensures.reads c.in-Key.numbers c.in-Key.tally.items) c.read_items-run.ensures.few
