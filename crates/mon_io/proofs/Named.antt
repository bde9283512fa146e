-- Files in a list, from a place on.
use Rattle.std.proofs.Common.{◌≡◌, ℕ, zero, suc, ◌+◌, ◌<◌, List, [], ◌∷◌, length, get_or, drop, cond, Bool, true, false, Some, sym, ◌∙◌, ap, arith, add-one, bytes_eq, string_bytes, String, Vec}
use Rattle.std.specs.declared.alloc.Global.{Global}
use Rattle.mon_io.specs.Files.{Files, contents_of, contents_at}

-- the first of the files from a place on
contents_of-drop : (files : Files) (name : List ℕ) (place : ℕ) (file : String Global × Vec ℕ Global)
    → place < length files → file ≡ get_or files place file
    → contents_of (drop place files) name
    ≡ cond (bytes_eq (string_bytes file.0) name) (Some (contents_at files place))
    (contents_of (drop (suc place) files) name)
contents_of-drop [] name place file within is = absurd (omega arith)
contents_of-drop (first ∷ files) name zero file within is =
    ap (λ (f : String Global × Vec ℕ Global).
    cond (bytes_eq (string_bytes f.0) name) (Some first.1.items) (contents_of files name)) (sym is)
contents_of-drop (first ∷ files) name (suc place) file within is =
    contents_of-drop files name place file (omega arith) is

-- a file with the name
pub found_at : (files : Files) (name : List ℕ) (place : ℕ) (file : String Global × Vec ℕ Global)
    → place < length files → file ≡ get_or files place file
    → true ≡ bytes_eq (string_bytes file.0) name → Some (contents_at files place) ≡ contents_of (drop place files) name
found_at files name place file within is same =
    ap (λ (b : Bool). cond b (Some (contents_at files place)) (contents_of (drop (suc place) files) name)) same
    ∙ sym (contents_of-drop files name place file within is)

-- a file with another name
pub not_at : (files : Files) (name : List ℕ) (place : ℕ) (file : String Global × Vec ℕ Global) → place < length files
    → file ≡ get_or files place file
    → false ≡ bytes_eq (string_bytes file.0) name
    → contents_of (drop (place + 1) files) name ≡ contents_of (drop place files) name
not_at files name place file within is other =
    rw add-one (
    ap (λ (b : Bool). cond b (Some (contents_at files place)) (contents_of (drop (suc place) files) name)) other
    ∙ sym (contents_of-drop files name place file within is))
