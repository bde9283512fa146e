use Rattle.std.proofs.Common.{length, ◌∙◌, ap, arith, length-append}
use Rattle.std.specs.Option.{option_to_list}
use Rattle.child_jobs.specs.Rooms.{ends_frame}
use Rattle.child_jobs.proofs.Rooms.{RoomBehind, items_few, needs_few, room_as, room_with, sites_few}
use Rattle.child_jobs.proofs.reader.JobReader.go_on.Goals as goal

pub keep-requires : goal.keep-requires
keep-requires c =
    let r = c.args.self.now in
    let room : RoomBehind r c.args.place c.args.item c.args.site c.args.need =
    room_with r c.args.place c.args.item c.args.site c.args.need c.requires.within c.requires.field in
    omega (arith, room.few_items, items_few c.args.place (ends_frame r.place c.args.place), r.frame_room)

pub keep-requires-2 : goal.keep-requires-2
keep-requires-2 c =
    let r = c.args.self.now in
    let room : RoomBehind r c.args.place c.args.item c.args.site c.args.need =
    room_with r c.args.place c.args.item c.args.site c.args.need c.requires.within c.requires.field in
    omega (arith, room.few_sites, sites_few c.args.place, r.site_room)

pub keep-requires-3 : goal.keep-requires-3
keep-requires-3 c =
    let r = c.args.self.now in
    let room : RoomBehind r c.args.place c.args.item c.args.site c.args.need =
    room_with r c.args.place c.args.item c.args.site c.args.need c.requires.within c.requires.field in
    omega (arith, room.few_needs, needs_few c.args.place, r.need_room)

pub invariant_of-self : goal.invariant_of-self
invariant_of-self c =
    let r = c.args.self.now in
    let room : RoomBehind r c.args.place c.args.item c.args.site c.args.need =
    room_with r c.args.place c.args.item c.args.site c.args.need c.requires.within c.requires.field in
    record {
      room =
          room_as c.ends_frame-ended.ensures
          (ap length c.keep.ensures.items ∙ length-append r.frame.items (option_to_list c.args.item))
          (ap length c.keep-2.ensures.items ∙ length-append r.sites.items (option_to_list c.args.site))
          (ap length c.keep-3.ensures.items ∙ length-append r.needs.items (option_to_list c.args.need)) room;
      via = c.requires.via;
      frame_room = omega (arith, c.keep.ensures.room, r.frame_room);
      site_room = omega (arith, c.keep-2.ensures.room, r.site_room);
      need_room = omega (arith, c.keep-3.ensures.room, r.need_room);
      short = omega (arith, c.place_size.ensures.some, c.place_size.ensures.size);
      held_room = omega (arith, c.place_size.ensures.few, c.place_size.ensures.size);
    }
