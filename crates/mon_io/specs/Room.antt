-- What a room holds.
use Rattle.std.specs.Prelude.{ℕ, ◌-◌, List, length}
use Rattle.mon_io.specs.declared.room.Room.{Room}

abbrev pub room_bytes : Room → List ℕ
room_bytes room = room.bytes.items

-- how many more bytes fit
abbrev pub free_room : Room → ℕ
free_room room = room.size - length room.bytes.items
