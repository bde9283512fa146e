-- A buffer while it is filled.
use Rattle.std.proofs.Common.{◌≡◌, ℕ, ◌+◌, ◌-◌, ◌≤◌, List, ◌++◌, length, take, Option, ◌∙◌, ap, subst, arith, length-append, length-take-le}
use Rattle.std.proofs.lemmas.List.{take-append-le}
use Rattle.std.proofs.Math.Seq.{take-append-add}
use borrow.Rule.Slice.PartMut.{put_mid, post_of}
use Rattle.mon_io.specs.Inputs.{InputState, Took}
use Rattle.mon_io.proofs.Told.{took_more}

-- the front of a buffer has been filled with what was taken
pub record IsFilling (before now : InputState) (buf : List ℕ) (count : ℕ) : Type 0 where
  pub within : count ≤ length buf
  pub took : Took before.rest now.rest (take count buf)
  pub stays : now.contents ≡ before.contents
  pub later : before.faults ≤ now.faults

-- the front of a buffer after a read into what is behind n bytes
take-put_mid-more : (buf read : List ℕ) (n m : ℕ) → n ≤ length buf → m ≤ length read
    → take (n + m) (put_mid n (length buf - n) buf read) ≡ take n buf ++ take m read
take-put_mid-more buf read n m within fits =
    let behind = read ++ post_of n (length buf - n) buf in
    subst (λ (k : ℕ). take (k + m) (take n buf ++ behind) ≡ take n buf ++ take m behind)
    (length-take-le n buf within) (take-append-add (take n buf) behind m)
    ∙ ap (λ (l : List ℕ). take n buf ++ l) (take-append-le m read (post_of n (length buf - n) buf) fits)

pub filled_more : {before now : InputState} {rest : Option (List ℕ)} (buf read : List ℕ) (n m : ℕ)
    → IsFilling before now buf n → Took now.rest rest (take m read) → m ≤ length read
    → Took before.rest rest (take (n + m) (put_mid n (length buf - n) buf read))
filled_more buf read n m filling took fits =
    rw (take-put_mid-more buf read n m filling.within fits) (took_more filling.took took)

pub within_more : {before now : InputState} (buf read : List ℕ) (n m : ℕ) → IsFilling before now buf n
    → m ≤ length read → n + m ≤ length (put_mid n (length buf - n) buf read)
within_more buf read n m filling fits =
    omega (
      arith,
      filling.within,
      length-append (take n buf)
          (read ++ post_of n (length buf - n) buf),
      length-append read
          (post_of n (length buf - n) buf),
      length-take-le n buf filling.within,
    )
