-- The log as it is kept, and as clauses see it.
use Rattle.std.specs.Prelude.{ℕ, List, map, reverse}
use Rattle.crew.specs.Log.{Entry}
use Rattle.crew.specs.declared.log.LogEntry.{LogEntry}
use Rattle.crew.specs.declared.log.LogEntry.TheVariants as kept

abbrev pub entry_of : LogEntry → Entry
entry_of (kept.Started ticket) = Entry.Started ticket
entry_of (kept.StartFailed ticket) = Entry.StartFailed ticket
entry_of (kept.Fed ticket piece) = Entry.Fed ticket piece.items
entry_of (kept.FeedFailed ticket) = Entry.FeedFailed ticket
entry_of (kept.Sealed ticket) = Entry.Sealed ticket
entry_of (kept.Reply ticket bytes) = Entry.Reply ticket bytes.items
entry_of (kept.Died ticket) = Entry.Died ticket
entry_of (kept.Stopped ticket) = Entry.Stopped ticket

-- the entries with the newest first
unfoldable pub log_of : List LogEntry → List Entry
log_of entries = reverse (map entry_of entries)

-- the entries, and for how many there is room
pub record LogState : Type 0 where
  pub entries : List Entry
  pub room : ℕ
