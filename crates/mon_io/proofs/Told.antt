-- Bytes taken off and appended, one piece after another.
use Rattle.std.proofs.Common.{◌≡◌, ℕ, ◌+◌, ◌≤◌, List, [], ◌++◌, length, take, drop, ◌-◌, Option, Some, None, Result, Ok, Err, OnErr, refl, sym, ◌∙◌, ap, append_assoc, append-nil, take-append-drop, take-add, length-append, length-take, arith}
use Rattle.std.proofs.lemmas.List.{take_rest, drop-drop}
use Rattle.std.specs.Io.KnownBytes.{prepend_known, append_known}
use Rattle.mon_io.specs.Inputs.{InputState, Took}
use Rattle.mon_io.specs.Sink.{SinkState, Grew, GrewByPart}

pub on_err : {T E P : Type 0} (result : Result T E) → P → OnErr result P
on_err (Ok value) holds = tt
on_err (Err error) holds = holds

pub prepend_nothing : (told : Option (List ℕ)) → told ≡ prepend_known [] told
prepend_nothing None = refl
prepend_nothing (Some bytes) = refl

prepend_both : (told : Option (List ℕ)) (front more : List ℕ)
    → prepend_known front (prepend_known more told) ≡ prepend_known (front ++ more) told
prepend_both None front more = refl
prepend_both (Some bytes) front more = ap Some (sym (append_assoc front more bytes))

append_nothing : (told : Option (List ℕ)) → told ≡ append_known told []
append_nothing None = refl
append_nothing (Some bytes) = ap Some (sym (append-nil bytes))

append_both : (told : Option (List ℕ)) (front more : List ℕ)
    → append_known (append_known told front) more ≡ append_known told (front ++ more)
append_both None front more = refl
append_both (Some bytes) front more = ap Some (append_assoc bytes front more)

pub took_nothing : (told : Option (List ℕ)) → Took told told []
took_nothing told = record { taken = prepend_nothing told }

-- two takings in a row are one
pub took_more : {a b c : Option (List ℕ)} {front more : List ℕ} → Took a b front → Took b c more
    → Took a c (front ++ more)
took_more {a} {b} {c} {front} {more} first second =
    record { taken = first.taken ∙ ap (prepend_known front) second.taken ∙ prepend_both c front more }

-- the front of what is left is taken
pub took_front : (bytes : List ℕ) (at n : ℕ) (front : List ℕ) → front ≡ take n (drop at bytes)
    → Took (Some (drop at bytes)) (Some (drop (at + n) bytes)) front
took_front bytes at n front is = record {
  taken =
      ap Some (sym (take-append-drop n (drop at bytes)) ∙ ap (λ (l : List ℕ). l ++ drop n (drop at bytes)) (sym is)
      ∙ ap (λ (l : List ℕ). front ++ l) (drop-drop n at bytes));
}

pub grew_nothing : (told : Option (List ℕ)) → Grew told told []
grew_nothing told = record { appended = append_nothing told }

-- two appendings in a row are one
pub grew_more : {a b c : Option (List ℕ)} {front more : List ℕ} → Grew a b front → Grew b c more
    → Grew a c (front ++ more)
grew_more {a} {b} {c} {front} {more} first second =
    record {
      appended =
          second.appended ∙ ap (λ (told : Option (List ℕ)). append_known told more) first.appended
          ∙ append_both a front more;
    }

-- a piece of the rest behind n bytes, appended to them
pub grew_on : {a b c : Option (List ℕ)} (bytes : List ℕ) (n m : ℕ) → Grew a b (take n bytes)
    → Grew b c (take m (take (length bytes - n) (drop n bytes))) → Grew a c (take (n + m) bytes)
grew_on bytes n m first second = rw (take-add n m bytes) (grew_more first (rw take_rest at second))

-- what was appended up to a place is a part of the whole, also after a call that appended nothing
pub grew_by_front : {a b c : Option (List ℕ)} (bytes : List ℕ) (n : ℕ) → Grew a b (take n bytes) → c ≡ b
    → GrewByPart a c bytes
grew_by_front bytes n grew same = record {
  front = take n bytes;
  back = drop n bytes;
  parts = sym (take-append-drop n bytes);
  grew = record { appended = same ∙ grew.appended };
}

-- n of the bytes were appended
pub record Appended (before now : SinkState) (bytes : List ℕ) (n : ℕ) : Type 0 where
  pub within : n ≤ length bytes
  pub grew : Grew before.written now.written (take n bytes)
  pub later : before.faults ≤ now.faults

-- bytes of the rest were read, within a limit
pub record HasRead (before now : InputState) (bytes : List ℕ) (limit : ℕ) : Type 0 where
  pub within : length bytes ≤ limit
  pub took : Took before.rest now.rest bytes
  pub stays : now.contents ≡ before.contents
  pub later : before.faults ≤ now.faults

-- a piece of a buffer was read behind the bytes
pub took_piece : {before now : InputState} {rest : Option (List ℕ)} {bytes : List ℕ} {limit : ℕ}
    (chunk : List ℕ) (n : ℕ)
    → HasRead before now bytes limit → Took now.rest rest (take n chunk) → n ≤ length chunk
    → (length (bytes ++ take n chunk) ≡ length bytes + n) × Took before.rest rest (bytes ++ take n chunk)
took_piece {bytes = bytes} chunk n read took fits =
    (omega (arith, length-append bytes (take n chunk), length-take n chunk), took_more read.took took)
