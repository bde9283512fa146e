-- A key read back from its bytes.
use Rattle.std.proofs.Common.{◌≡◌, ◌<◌, ◌≤◌, ℕ, ◌+◌, ◌^◌, List, [], ◌∷◌, ◌++◌, length, take, drop, All, refl, sym, ◌∙◌, ap, arith}
use Rattle.std.specs.List.{AllByRecursion}
use Rattle.std.proofs.Math.ListN.{drop_of_length-le}
use Rattle.std.proofs.lemmas.List.{drop-drop, length-drop, length-take-le, take-append-drop}
use Rattle.std.proofs.lemmas.List.Elements.{All-drop, All-from_recursion, All-take}
use Rattle.byteorder.specs.Endian.{little_bytes}
use Rattle.byteorder.specs.Numbers.{little_from-take}
use Rattle.byte_format.specs.Keys.{key_bytes, key_size, key_words, word_at}
use Rattle.byte_format.proofs.Numbers.{bytes_4, fits_4, number_4}

pub words_read : (a b c d e f g h i j k : ℕ) → a < 2 ^ 32 → b < 2 ^ 32 → c < 2 ^ 32 → d < 2 ^ 32 → e < 2 ^ 32
    → f < 2 ^ 32
    → g < 2 ^ 32 → h < 2 ^ 32 → i < 2 ^ 32 → j < 2 ^ 32 → k < 2 ^ 32
    → key_words (key_bytes (a ∷ b ∷ c ∷ d ∷ e ∷ f ∷ g ∷ h ∷ i ∷ j ∷ k ∷ [])) ≡ a ∷ b ∷ c ∷ d ∷ e ∷ f ∷ g ∷ h ∷ i ∷ j ∷
    k ∷ []
unfolding key_bytes key_words word_at
words_read a b c d e f g h i j k pa pb pc pd pe pf pg ph pi pj pk =
    λ x. number_4 a pa x ∷ number_4 b pb x ∷ number_4 c pc x ∷ number_4 d pd x ∷ number_4 e pe x ∷ number_4 f pf x
    ∷ number_4 g pg x ∷ number_4 h ph x ∷ number_4 i pi x ∷ number_4 j pj x ∷ number_4 k pk x ∷ []

-- eleven words of four bytes are read back
pub key_read : (key : List ℕ) → length key ≡ 11 → AllByRecursion (λ word. word < 2 ^ 32) key
    → key_words (key_bytes key) ≡ key
key_read (a ∷ b ∷ c ∷ d ∷ e ∷ f ∷ g ∷ h ∷ i ∷ j ∷ k ∷ []) size
    (pa, (pb, (pc, (pd, (pe, (pf, (pg, (ph, (pi, (pj, (pk, none))))))))))) =
    words_read a b c d e f g h i j k pa pb pc pd pe pf pg ph pi pj pk
key_read key size each = absurd (omega (arith, size))

-- a key has 44 bytes
pub key_length : (key : List ℕ) → length key ≡ 11 → length (key_bytes key) ≡ key_size
unfolding key_bytes
key_length (a ∷ b ∷ c ∷ d ∷ e ∷ f ∷ g ∷ h ∷ i ∷ j ∷ k ∷ []) size = refl
key_length key size = absurd (omega (arith, size))

-- a word of bytes fits
pub word_small : (bytes : List ℕ) (at : ℕ) → All (λ byte. byte < 256) bytes → word_at bytes at < 2 ^ 32
unfolding word_at
word_small bytes at small = fits_4 (drop at bytes) (All-drop (λ byte. byte < 256) at bytes small)

-- all words of bytes fit
pub words_small : (bytes : List ℕ) → All (λ byte. byte < 256) bytes → All (λ word. word < 2 ^ 32) (key_words bytes)
unfolding key_words
words_small bytes small =
    let s : (at : ℕ) → word_at bytes at < 2 ^ 32 = λ at. word_small bytes at small in
    All-from_recursion (λ word. word < 2 ^ 32) (key_words bytes)
    (s 0, (s 4, (s 8, (s 12, (s 16, (s 20, (s 24, (s 28, (s 32, (s 36, (s 40, tt)))))))))))

-- a word's bytes, and the bytes behind them
word_back : (bytes tail : List ℕ) (at : ℕ) → All (λ byte. byte < 256) bytes → at + 4 ≤ length bytes
    → tail ≡ drop (at + 4) bytes → little_bytes 4 (word_at bytes at) ++ tail ≡ drop at bytes
unfolding word_at
word_back bytes tail at small there is =
    let rest : List ℕ = drop at bytes in
    let enough : 4 ≤ length rest = omega (arith, length-drop at bytes) in
    let four : All (λ byte. byte < 256) (take 4 rest) =
    All-take (λ byte. byte < 256) 4 rest (All-drop (λ byte. byte < 256) at bytes small) in
    ap (λ (n : ℕ). little_bytes 4 n ++ tail) (sym (little_from-take 0 4 4 rest (omega arith)))
    ∙ ap (λ (l : List ℕ). l ++ tail) (bytes_4 (take 4 rest) (length-take-le 4 rest enough) four)
    ∙ ap (λ (l : List ℕ). take 4 rest ++ l) (is ∙ sym (drop-drop 4 at bytes))
    ∙ take-append-drop 4 rest

-- 44 bytes back from their words
pub key_back : (bytes : List ℕ) → length bytes ≡ key_size → All (λ byte. byte < 256) bytes
    → key_bytes (key_words bytes) ≡ bytes
unfolding key_bytes key_words
key_back bytes size small =
    let none : [] ≡ drop 44 bytes = sym (drop_of_length-le bytes {i = 44} (omega (arith, size))) in
    let on : (tail : List ℕ) (at : ℕ) → at + 4 ≤ 44 → tail ≡ drop (at + 4) bytes
    → little_bytes 4 (word_at bytes at) ++ tail ≡ drop at bytes =
    λ tail at there is. word_back bytes tail at small (omega (arith, size, there)) is in
    on _ 0 (omega arith) (on _ 4 (omega arith) (on _ 8 (omega arith) (on _ 12 (omega arith) (on _ 16 (omega arith)
    (on _ 20 (omega arith) (on _ 24 (omega arith) (on _ 28 (omega arith) (on _ 32 (omega arith)
    (on _ 36 (omega arith) (on [] 40 (omega arith) none))))))))))
