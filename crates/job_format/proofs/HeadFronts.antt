-- What the fields of a head keep.
use Rattle.std.proofs.Common.{◌≡◌, ◌≤◌, ◌<◌, ℕ, zero, suc, ◌&&◌, ◌==◌, nat_le, List, [], ◌∷◌, ◌++◌, length, slice_index, All, Ok, refl, sym, arith}
use Rattle.std.proofs.lemmas.Bool.{eqb-true, leb-true}
use Rattle.std.proofs.lemmas.List.Elements.{All-nil}
use Rattle.byteorder.specs.Endian.{little_number}
use Rattle.byte_format.proofs.Numbers.{bytes_2, bytes_4, bytes_8, fits_4, fits_8}
use Rattle.hash_family.specs.Limits.{is_rows, is_width}
use Rattle.job_format.specs.Job.{IsItem, front_bytes}
use Rattle.job_format.specs.Places.{behind_number, head_size, is_magic, judge_head, kind_at}
use Rattle.job_format.specs.declared.fault.JobFault.TheVariants as faults
use Rattle.job_format.specs.declared.place.HeadNumbers.{HeadNumbers}
use Rattle.job_format.specs.declared.place.HeadStep.{HeadStep}
use Rattle.job_format.specs.declared.place.HeadStep.TheVariants as steps
use Rattle.job_format.specs.declared.place.Kind.{Kind}
use Rattle.job_format.specs.declared.place.Kind.TheVariants as kinds
use Rattle.job_format.specs.declared.place.Place.{Place}
use Rattle.job_format.specs.declared.place.Place.TheVariants.{Head, Count}
use Rattle.job_format.proofs.Fronts.{Says, SaysHead, kind_byte}
use Rattle.job_format.proofs.Heads.{no_items}
use Rattle.job_format.proofs.Judged.{byte_is, joined, led, magic_is, one_byte, right_led}
use Rattle.job_format.proofs.Settings.{setting_from}

kind_back : (byte : ℕ) → byte ≤ 1 → kind_byte (kind_at byte) ≡ byte
kind_back zero small = refl
kind_back (suc zero) small = refl
kind_back (suc (suc n)) small = absurd (omega (arith, small))

number_keeps : (kind : Kind) (h : HeadNumbers) (front field : List ℕ) → All (λ byte. byte < 256) field
    → front ≡ front_bytes ++ kind_byte kind ∷ [] → length field ≡ 4
    → Says (behind_number (record h { job = little_number 4 field }) kind) (front ++ field)
number_keeps kinds.Replay h front field small says size =
    (fits_4 field small, joined says (sym (bytes_4 field size small)))
number_keeps kinds.Solve h front field small says size =
    record { fits = fits_4 field small; parts = joined says (sym (bytes_4 field size small)) }

seed_keeps : (h : HeadNumbers) (front field : List ℕ) → All (λ byte. byte < 256) field → SaysHead steps.Seed h front
    → length field ≡ 8
    → Says (Count (record h { seed = little_number 8 field }) no_items) (front ++ field)
seed_keeps h front field small (number, levels, rows, width, heap, parts) size = record {
  frames = [];
  items = [];
  framed = record { all = refl; each = tt; full = tt };
  within = record { each = All-nil IsItem; few = omega arith; weight = refl; light = omega arith };
  count = refl;
  head =
      record {
        number = number;
        setting =
            setting_from _ (record { levels = levels; rows = rows; width = width; heap = heap }) (fits_8 field small);
        parts = joined parts (sym (bytes_8 field size small));
      };
}

pub head_keeps : (step : HeadStep) (h : HeadNumbers) (t : Place) (front field : List ℕ)
    → All (λ byte. byte < 256) field → SaysHead step h front → length field ≡ head_size step
    → judge_head step h field ≡ Ok t → Says t (front ++ field)
head_keeps steps.Magic h t front field small says size ok =
    right_led (λ p. Says p (front ++ field)) (is_magic field) faults.Magic (Head steps.Version h) t
    (λ is. joined says (magic_is field size is)) ok
head_keeps steps.Version h t front field small says size ok =
    right_led (λ p. Says p (front ++ field)) (slice_index field 0 == 1) faults.Version (Head steps.Kind h) t
    (λ is. joined says (byte_is field 1 size (eqb-true _ 1 is))) ok
head_keeps steps.Kind h t front field small says size ok =
    right_led (λ p. Says p (front ++ field)) (nat_le (slice_index field 0) 1) faults.Shape
    (Head steps.Number (record h { kind = kind_at (slice_index field 0) })) t
    (λ is. joined says (byte_is field _ size (sym (kind_back (slice_index field 0) (leb-true _ 1 is))))) ok
head_keeps steps.Number h t front field small says size ok =
    led (λ p. Says p (front ++ field)) (behind_number (record h { job = little_number 4 field }) h.kind) t
    (number_keeps h.kind h front field small says size) ok
head_keeps steps.Levels h t front field small (number, parts) size ok =
    right_led (λ p. Says p (front ++ field)) (nat_le (slice_index field 0) 16) faults.Shape
    (Head steps.Rows (record h { levels = slice_index field 0 })) t
    (λ is. (number, is, joined parts (one_byte field size))) ok
head_keeps steps.Rows h t front field small (number, levels, parts) size ok =
    right_led (λ p. Says p (front ++ field)) (is_rows (slice_index field 0)) faults.Shape
    (Head steps.Width (record h { rows = slice_index field 0 })) t
    (λ is. (number, levels, is, joined parts (one_byte field size))) ok
head_keeps steps.Width h t front field small (number, levels, rows, parts) size ok =
    right_led (λ p. Says p (front ++ field)) (is_width (little_number 2 field)) faults.Shape
    (Head steps.Heap (record h { width = little_number 2 field })) t
    (λ is. (number, levels, rows, is, joined parts (sym (bytes_2 field size small)))) ok
head_keeps steps.Heap h t front field small (number, levels, rows, width, parts) size ok =
    right_led (λ p. Says p (front ++ field)) (nat_le 1 (little_number 2 field) && nat_le (little_number 2 field) 1024)
    faults.Shape (Head steps.Seed (record h { heap = little_number 2 field })) t
    (λ is. (number, levels, rows, width, is, joined parts (sym (bytes_2 field size small)))) ok
head_keeps steps.Seed h t front field small says size ok =
    led (λ p. Says p (front ++ field)) (Count (record h { seed = little_number 8 field }) no_items) t
    (seed_keeps h front field small says size) ok
