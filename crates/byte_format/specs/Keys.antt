-- A flow key as bytes: its eleven words of four bytes each, the low byte first.
use Rattle.std.specs.Prelude.{ℕ, List, [], ◌∷◌, drop}
use Rattle.std.specs.List.{flat_map}
use Rattle.byteorder.specs.Endian.{little_bytes, little_number}

-- how many bytes a key takes
abbrev pub key_size : ℕ
key_size = 44

-- the bytes of a key's words
unfoldable pub key_bytes : List ℕ → List ℕ
key_bytes words = flat_map (little_bytes 4) words

-- the word that stands at a place of the bytes
unfoldable pub word_at : List ℕ → ℕ → ℕ
word_at bytes at = little_number 4 (drop at bytes)

-- the eleven words that stand at the front of bytes
unfoldable pub key_words : List ℕ → List ℕ
key_words bytes =
    word_at bytes 0 ∷ word_at bytes 4 ∷ word_at bytes 8 ∷ word_at bytes 12 ∷ word_at bytes 16 ∷ word_at bytes 20
    ∷ word_at bytes 24 ∷ word_at bytes 28 ∷ word_at bytes 32 ∷ word_at bytes 36 ∷ word_at bytes 40 ∷ []
