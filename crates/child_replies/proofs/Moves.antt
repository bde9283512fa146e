-- How reading goes on, in every format whose faults are those of replies, and of replay replies.
use Rattle.std.proofs.Common.{◌≡◌, ◌<◌, ℕ, Bool, true, false, List, [], ◌++◌, length, Option, None, Some, cond, Result, Ok, Err, ◌∙◌, ap, arith, inl, inr}
use Rattle.byte_format.proofs.Formats.{TakesBytes, reached-append, reached-broken, reached-field, reached-on, reached-part}
use Rattle.byte_format.specs.Format.{Format, Reached, At, Broken, judged, reached}
use Rattle.child_replies.specs.Steps.{MayStop, Moves, Stops, stop_of}
use Rattle.reply_format.specs.Places.{Place, if_right, judge_place, place_size, replay_format}
use Rattle.reply_format.specs.Places as places
use Rattle.reply_format.specs.Read.{is_end}
use Rattle.reply_format.specs.Reply.{ReplayHead}
use Rattle.reply_format.specs.declared.fault.ReplyFault.{ReplyFault}
use Rattle.reply_format.specs.declared.fault.ReplyFault.TheVariants.{Short}

module _ {S : Type 0} (g : Format S ReplyFault) (takes : TakesBytes g) (whole : S → Bool) where
  -- a field that stands
  pub field_on : (s t : S) (field after bytes : List ℕ) → bytes ≡ field ++ after → length field ≡ g.size s
      → g.judge s field ≡ Ok t
      → reached g (At s []) bytes ≡ reached g (At t []) after
  field_on s t field after bytes parts size ok =
      ap (λ (l : List ℕ). reached g (At s []) l) parts ∙ reached-on g takes s t field after size ok

  -- too few bytes
  pub field_short : (s : S) (bytes : List ℕ) → length bytes < g.size s → whole s ≡ false
      → stop_of whole Short (reached g (At s []) bytes) ≡ Some Short
  field_short s bytes less inside =
      ap (λ (r : Reached S ReplyFault). stop_of whole Short r) (reached-part g s [] bytes (omega (arith, less)))
      ∙ ap (λ (b : Bool). cond {A = Option ReplyFault} b None (Some Short)) inside

  -- a field that is wrong
  pub field_broken : (s : S) (field after bytes : List ℕ) (fault : ReplyFault) → bytes ≡ field ++ after
      → length field ≡ g.size s → g.judge s field ≡ Err fault
      → reached g (At s []) bytes ≡ Broken fault
  field_broken s field after bytes fault parts size err =
      ap (λ (l : List ℕ). reached g (At s []) l) parts
      ∙ reached-append g (At s []) field after
      ∙ ap (λ (r : Reached S ReplyFault). reached g r after)
      (reached-field g s [] field (omega (arith, size, takes.some s)) (omega (arith, size))
      ∙ ap (λ (r : Result S ReplyFault). judged r) err)
      ∙ reached-broken g fault after

  pub field_wrong : (s : S) (field after bytes : List ℕ) (fault : ReplyFault) → bytes ≡ field ++ after
      → length field ≡ g.size s → g.judge s field ≡ Err fault
      → stop_of whole Short (reached g (At s []) bytes) ≡ Some fault
  field_wrong s field after bytes fault parts size err =
      ap (λ (r : Reached S ReplyFault). stop_of whole Short r) (field_broken s field after bytes fault parts size err)

some_size : (e : ReplayHead) (s : Place) → 0 < place_size e s
some_size e places.Magic = omega arith
some_size e places.Version = omega arith
some_size e (places.Kind v) = omega arith
some_size e (places.Number v) = omega arith
some_size e (places.Levels v) = omega arith
some_size e (places.Rows v) = omega arith
some_size e (places.Width v) = omega arith
some_size e (places.HeapSize v) = omega arith
some_size e (places.Items v) = omega arith
some_size e (places.Weight v) = omega arith
some_size e (places.Counter cs) = omega arith
some_size e (places.RowCount cs) = omega arith
some_size e (places.Bucket cs from left) = omega arith
some_size e (places.Value cs from left) = omega arith
some_size e (places.HeapLength cs heaps) = omega arith
some_size e (places.HeapKey cs heaps heap left) = omega arith
some_size e (places.End body) = omega arith

-- every place of a replay reply takes at least one byte
pub replay_takes : (e : ReplayHead) → TakesBytes (replay_format e)
replay_takes e = record { some = some_size e }

module _ (e : ReplayHead) where
  pub moves_on : (s t : Place) (field after bytes : List ℕ) → bytes ≡ field ++ after → length field ≡ place_size e s
      → judge_place e s field ≡ Ok t → Moves e s bytes t after
  moves_on s t field after bytes parts size ok = field_on (replay_format e)
      (replay_takes e) is_end s t field after bytes parts size ok

  pub stops_short : (s : Place) (bytes : List ℕ) → length bytes < place_size e s → is_end s ≡ false
      → Stops e s bytes Short
  stops_short s bytes less inside = field_short (replay_format e) (replay_takes e) is_end s bytes less inside

  pub stops_wrong : (s : Place) (field after bytes : List ℕ) (fault : ReplyFault) → bytes ≡ field ++ after
      → length field ≡ place_size e s → judge_place e s field ≡ Err fault → Stops e s bytes fault
  stops_wrong s field after bytes fault parts size err = field_wrong (replay_format e)
      (replay_takes e) is_end s field after bytes fault parts size err

  pub stops_on : (s t : Place) (bytes after : List ℕ) (fault : ReplyFault) → Moves e s bytes t after
      → Stops e t after fault → Stops e s bytes fault
  stops_on s t bytes after fault on stop = ap (λ (r : Reached Place ReplyFault). stop_of is_end Short r) on ∙ stop

  pub may_stop_on : (s t : Place) (bytes after : List ℕ) (fault : ReplyFault) → Moves e s bytes t after
      → MayStop e t after fault → MayStop e s bytes fault
  may_stop_on s t bytes after fault on stop =
      elim stop [ inl full ↦ inl full | inr there ↦ inr (stops_on s t bytes after fault on there) ]

  -- the same where the field has one test
  pub tested_on : (s t : Place) (field after bytes : List ℕ) (test : Bool) (fault : ReplyFault) → bytes ≡ field ++ after
      → length field ≡ place_size e s
      → judge_place e s field ≡ if_right test fault t → test ≡ true → Moves e s bytes t after
  tested_on s t field after bytes test fault parts size judge is =
      moves_on s t field after bytes parts size (judge ∙ ap (λ (b : Bool). if_right b fault t) is)

  pub tested_stop : (s t : Place) (field after bytes : List ℕ) (test : Bool) (fault : ReplyFault) → bytes ≡ field
      ++ after → length field ≡ place_size e s
      → judge_place e s field ≡ if_right test fault t → test ≡ false → Stops e s bytes fault
  tested_stop s t field after bytes test fault parts size judge is =
      stops_wrong s field after bytes fault parts size (judge ∙ ap (λ (b : Bool). if_right b fault t) is)
