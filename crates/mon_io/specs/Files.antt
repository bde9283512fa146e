-- Named contents in memory, of which one is picked and read from its front.
use Rattle.std.specs.Prelude.{ℕ, List, [], ◌∷◌, Option, Some, None, if◌then◌else◌, bytes_eq, string_bytes, slice_get, unwrap_or, String, Vec}
use Rattle.std.specs.declared.alloc.Global.{Global}

abbrev pub Files : Type 0
Files = List (String Global × Vec ℕ Global)

-- the contents of the first file with this name
abbrev pub contents_of : Files → List ℕ → Option (List ℕ)
contents_of [] name = None
contents_of (file ∷ files) name =
    if bytes_eq (string_bytes file.0) name then Some file.1.items else contents_of files name

-- an unknown name has empty contents
abbrev pub contents_or_empty : Files → List ℕ → Option (List ℕ)
contents_or_empty files name = Some (unwrap_or (contents_of files name) [])

-- the contents of a file, none where there is none
abbrev pub contents_in : Option (String Global × Vec ℕ Global) → List ℕ
contents_in None = []
contents_in (Some file) = file.1.items

-- the contents at a place in the list, none past its end
abbrev pub contents_at : Files → ℕ → List ℕ
contents_at files place = contents_in (slice_get files place)
