-- How bytes are read as a tree, whatever follows it.
use Rattle.std.specs.Prelude.{ℕ, List, IsTrue, Result, Ok, Err}
use Rattle.bound_certificate.specs.Formed.{is_formed}
use Rattle.bound_certificate.specs.declared.tree.Tree.{Tree}
use Rattle.certificate_text.specs.Bytes.{bytes_of}
use Rattle.certificate_text.specs.Reading.{Stands, IsCut, IsNone}
use Rattle.certificate_text.specs.declared.fault.TreeBytesFault.{TreeBytesFault}
use Rattle.certificate_text.specs.declared.fault.TreeBytesFault.TheVariants.{Short, Shape, Memory}

-- a tree within its limits
abbrev pub IsFormed : Tree → Type 0
IsFormed tree = IsTrue (is_formed tree)

-- what bytes are read as: such a tree, whose bytes stand at the front, with their number, or why there is none; want
-- of memory is no reading
abbrev pub ReadsBytes : List ℕ → Result (Tree × ℕ) TreeBytesFault → Type 0
ReadsBytes bytes (Ok read) = Stands IsFormed bytes_of bytes read.0 read.1
ReadsBytes bytes (Err Short) = IsCut IsFormed bytes_of bytes
ReadsBytes bytes (Err Shape) = IsNone IsFormed bytes_of bytes
ReadsBytes bytes (Err Memory) = ⊥
