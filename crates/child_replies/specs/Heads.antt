-- The fields of a replay reply's head behind the version, each a number that is known.
use Rattle.std.specs.Prelude.{ℕ, ◌==◌, [], Option, Some, None, if◌then◌else◌}
use Rattle.hash_family.specs.Setting.{setting_of}
use Rattle.child_replies.specs.declared.head_field.HeadField.{HeadField}
use Rattle.child_replies.specs.declared.head_field.HeadField.TheVariants as fields
use Rattle.child_replies.specs.declared.replay_job.ReplayJob.{ReplayJob}
use Rattle.reply_format.specs.Places.{Place}
use Rattle.reply_format.specs.Places as places
use Rattle.reply_format.specs.Reply.{ReplayHead, head_of}
use Rattle.reply_format.specs.declared.fault.ReplyFault.{ReplyFault}
use Rattle.reply_format.specs.declared.fault.ReplyFault.TheVariants as faults

-- the head that is expected
abbrev pub head_of_job : ReplayJob → ReplayHead
head_of_job job = head_of job.number (setting_of job.params) job.items job.weight

abbrev pub place_of : HeadField → ℕ → Place
place_of fields.Kind v = places.Kind v
place_of fields.Number v = places.Number v
place_of fields.Levels v = places.Levels v
place_of fields.Rows v = places.Rows v
place_of fields.Width v = places.Width v
place_of fields.HeapSize v = places.HeapSize v
place_of fields.Items v = places.Items v
place_of fields.Weight v = places.Weight v

-- the field behind one, none behind the last
abbrev pub field_behind : HeadField → Option HeadField
field_behind fields.Kind = Some fields.Number
field_behind fields.Number = Some fields.Levels
field_behind fields.Levels = Some fields.Rows
field_behind fields.Rows = Some fields.Width
field_behind fields.Width = Some fields.HeapSize
field_behind fields.HeapSize = Some fields.Items
field_behind fields.Items = Some fields.Weight
field_behind fields.Weight = None

-- where the next field stands, and behind the head the first counter or the first row
abbrev pub next_place : Option HeadField → ℕ → Place
next_place (Some field) v = place_of field v
next_place None v = if v == 1 then places.Counter [] else places.RowCount []

-- how many fields are left
abbrev pub fields_left : Option HeadField → ℕ
fields_left None = 0
fields_left (Some fields.Kind) = 8
fields_left (Some fields.Number) = 7
fields_left (Some fields.Levels) = 6
fields_left (Some fields.Rows) = 5
fields_left (Some fields.Width) = 4
fields_left (Some fields.HeapSize) = 3
fields_left (Some fields.Items) = 2
fields_left (Some fields.Weight) = 1

abbrev pub field_size : HeadField → ℕ
field_size fields.Kind = 1
field_size fields.Number = 4
field_size fields.Levels = 1
field_size fields.Rows = 1
field_size fields.Width = 2
field_size fields.HeapSize = 2
field_size fields.Items = 4
field_size fields.Weight = 8

-- the number that is to stand there
abbrev pub field_number : ReplayHead → HeadField → ℕ
field_number head fields.Kind = 0
field_number head fields.Number = head.number
field_number head fields.Levels = head.setting.levels
field_number head fields.Rows = head.setting.rows
field_number head fields.Width = head.setting.width
field_number head fields.HeapSize = head.setting.heap
field_number head fields.Items = head.items
field_number head fields.Weight = head.weight

abbrev pub field_fault : HeadField → ReplyFault
field_fault fields.Kind = faults.Job
field_fault fields.Number = faults.Job
field_fault fields.Levels = faults.Shape
field_fault fields.Rows = faults.Shape
field_fault fields.Width = faults.Shape
field_fault fields.HeapSize = faults.Shape
field_fault fields.Items = faults.Totals
field_fault fields.Weight = faults.Totals
