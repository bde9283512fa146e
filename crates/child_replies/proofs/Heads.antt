-- The fields of a replay reply's head.
use Rattle.std.proofs.Common.{◌≡◌, ◌==◌, ℕ, Bool, false, List, ◌++◌, ◌<◌, length, eq-eqb, Some, [], ◌∷◌, inl, inr, subst, slice_index, refl, sym, ◌∙◌, ap, arith}
use Rattle.std.proofs.lemmas.Bool.Decides.{nat_tests}
use Rattle.byteorder.specs.Endian.{little_number}
use Rattle.child_replies.proofs.Moves.{moves_on, stops_short, stops_wrong}
use Rattle.child_replies.specs.Heads.{field_fault, field_number, field_size, field_behind, fields_left, next_place, place_of}
use Rattle.child_replies.specs.Steps.{Moves, Stops}
use Rattle.child_replies.specs.declared.head_field.HeadField.{HeadField}
use Rattle.child_replies.specs.declared.head_field.HeadField.TheVariants as fields
use Rattle.child_replies.specs.Fields.{Lacks, Takes, is_version}
use Rattle.reply_format.specs.Places.{if_right, is_magic, judge_place, place_size}
use Rattle.reply_format.specs.Places as places
use Rattle.reply_format.specs.declared.fault.ReplyFault.{ReplyFault}
use Rattle.reply_format.specs.declared.fault.ReplyFault.TheVariants as faults
use Rattle.reply_format.specs.Read.{is_end}
use Rattle.reply_format.specs.Reply.{ReplayHead}

pub known_size : (e : ReplayHead) (field : HeadField) (v : ℕ) → field_size field ≡ place_size e (place_of field v)
known_size e fields.Kind v = refl
known_size e fields.Number v = refl
known_size e fields.Levels v = refl
known_size e fields.Rows v = refl
known_size e fields.Width v = refl
known_size e fields.HeapSize v = refl
known_size e fields.Items v = refl
known_size e fields.Weight v = refl

pub known_inside : (field : HeadField) (v : ℕ) → is_end (place_of field v) ≡ false
known_inside fields.Kind v = refl
known_inside fields.Number v = refl
known_inside fields.Levels v = refl
known_inside fields.Rows v = refl
known_inside fields.Width v = refl
known_inside fields.HeapSize v = refl
known_inside fields.Items v = refl
known_inside fields.Weight v = refl

unequal : (m n : ℕ) → (m ≡ n → ⊥) → (m == n) ≡ false
unequal m n other = grind (arith, nat_tests)

one_byte : (b : List ℕ) → slice_index b 0 ≡ little_number 1 b
one_byte b = omega arith

-- each is judged by whether it is the number that is known
pub known_judged : (e : ReplayHead) (field : HeadField) (v : ℕ) (b : List ℕ)
    → judge_place e (place_of field v) b
    ≡ if_right (little_number (field_size field) b == field_number e field) (field_fault field)
    (next_place (field_behind field) v)
unfolding judge_place
known_judged e fields.Kind v b = ap (λ (n : ℕ). if_right (n == 0) (field_fault fields.Kind)
    (next_place (field_behind fields.Kind) v)) (one_byte b)
known_judged e fields.Number v b = refl
known_judged e fields.Levels v b = ap (λ (n : ℕ). if_right (n == e.setting.levels) (field_fault fields.Levels)
    (next_place (field_behind fields.Levels) v)) (one_byte b)
known_judged e fields.Rows v b = ap (λ (n : ℕ). if_right (n == e.setting.rows) (field_fault fields.Rows)
    (next_place (field_behind fields.Rows) v)) (one_byte b)
known_judged e fields.Width v b = refl
known_judged e fields.HeapSize v b = refl
known_judged e fields.Items v b = refl
known_judged e fields.Weight v b = refl

module _ (e : ReplayHead) (field : HeadField) (v : ℕ) (b after bytes : List ℕ) (parts : bytes ≡ b ++ after)
    (whole : length b ≡ field_size field) where
  -- the number that is known
  pub known_on : little_number (length b) b ≡ field_number e field
      → Moves e (place_of field v) bytes (next_place (field_behind field) v) after
  known_on same =
      let there : little_number (field_size field) b
      ≡ field_number e field = ap (λ (n : ℕ). little_number n b) (sym whole) ∙ same in
      moves_on e (place_of field v) (next_place (field_behind field) v) b after bytes parts
      (whole ∙ known_size e field v)
      (known_judged e field v b
      ∙ ap (λ (t : Bool). if_right t (field_fault field) (next_place (field_behind field) v))
      (eq-eqb (little_number (field_size field) b) (field_number e field) there))

  -- and any other
  pub known_wrong : (little_number (length b) b ≡ field_number e field → ⊥)
      → Stops e (place_of field v) bytes (field_fault field)
  known_wrong other =
      let there : (little_number (field_size field) b == field_number e field)
      ≡ false = unequal (little_number (field_size field) b) (field_number e field)
      (λ (same : little_number (field_size field) b ≡ field_number e field). other
      (ap (λ (n : ℕ). little_number n b) whole ∙ same)) in
      stops_wrong e (place_of field v) b after bytes (field_fault field) parts (whole ∙ known_size e field v)
      (known_judged e field v b
      ∙ ap (λ (t : Bool). if_right t (field_fault field) (next_place (field_behind field) v)) there)

pub fewer_left : (field : HeadField) → fields_left (field_behind field) < fields_left (Some field)
fewer_left fields.Kind = omega arith
fewer_left fields.Number = omega arith
fewer_left fields.Levels = omega arith
fewer_left fields.Rows = omega arith
fewer_left fields.Width = omega arith
fewer_left fields.HeapSize = omega arith
fewer_left fields.Items = omega arith
fewer_left fields.Weight = omega arith

module _ (e : ReplayHead) where
  -- the first four bytes
  pub magic_on : (bytes field after : List ℕ) → Takes 4 is_magic bytes field after
      → Moves e places.Magic bytes places.Version after
  unfolding judge_place
  magic_on bytes field after takes =
      moves_on e places.Magic places.Version field after bytes takes.parts takes.whole
      (ap (λ (t : Bool). if_right t faults.Magic places.Version) takes.tested)

  pub magic_stop : (bytes : List ℕ) (fault : ReplyFault) → Lacks 4 is_magic faults.Magic bytes fault
      → Stops e places.Magic bytes fault
  unfolding judge_place
  magic_stop bytes fault (inl (is, less)) = subst (λ (f : ReplyFault). Stops e places.Magic bytes f) (sym is)
      (stops_short e places.Magic bytes less refl)
  magic_stop bytes fault (inr (is, (field, (after, lacks)))) =
      subst (λ (f : ReplyFault). Stops e places.Magic bytes f) (sym is)
      (stops_wrong e places.Magic field after bytes faults.Magic lacks.parts lacks.whole
      (ap (λ (t : Bool). if_right t faults.Magic places.Version) lacks.tested))

  -- the version
  pub version_on : (bytes after : List ℕ) (version : ℕ) → Takes 1 is_version bytes (version ∷ []) after
      → Moves e places.Version bytes (places.Kind version) after
  unfolding judge_place
  version_on bytes after version takes =
      moves_on e places.Version (places.Kind version) (version ∷ []) after bytes takes.parts takes.whole
      (ap (λ (t : Bool). if_right t faults.Version (places.Kind version)) takes.tested)

  pub version_stop : (bytes : List ℕ) (fault : ReplyFault) → Lacks 1 is_version faults.Version bytes fault
      → Stops e places.Version bytes fault
  unfolding judge_place
  version_stop bytes fault (inl (is, less)) = subst (λ (f : ReplyFault). Stops e places.Version bytes f) (sym is)
      (stops_short e places.Version bytes less refl)
  version_stop bytes fault (inr (is, (field, (after, lacks)))) =
      subst (λ (f : ReplyFault). Stops e places.Version bytes f) (sym is)
      (stops_wrong e places.Version field after bytes faults.Version lacks.parts lacks.whole
      (ap (λ (t : Bool). if_right t faults.Version (places.Kind (slice_index field 0))) lacks.tested))
