-- The document that bytes spell.
use Rattle.std.proofs.Common.{◌≡◌, ℕ, List, Some, None, false, cond, ap, ◌∙◌, inl, inr}
use Rattle.std.proofs.lemmas.Bool.{cases_Bool}
use Rattle.std.proofs.lemmas.Str.{IsUtf8-from_is_utf8, is_utf8-from_IsUtf8}
use Rattle.std.specs.Prelude.{IsUtf8, is_none}
use Rattle.std.specs.Str.{is_utf8}
use Rattle.toml.specs.Data.{Members, table}
use Rattle.toml.specs.Parse.{parse_document}
use Rattle.topology.specs.Topology.{document_of, root_of}

pub document_read : (bytes : List ℕ) (read : Members) → IsUtf8 bytes → parse_document bytes ≡ Some read
    → document_of bytes ≡ Some read
unfolding document_of
document_read bytes read text spelled =
    ap (λ b. cond b (parse_document bytes) None) (is_utf8-from_IsUtf8 bytes text) ∙ spelled

pub root_read : (bytes : List ℕ) (read : Members) → IsUtf8 bytes → parse_document bytes ≡ Some read
    → table read ≡ root_of bytes
unfolding root_of
root_read bytes read text spelled = rw (document_read bytes read text spelled)

pub some_document : (bytes : List ℕ) (read : Members) → IsUtf8 bytes → parse_document bytes ≡ Some read
    → is_none (document_of bytes) ≡ false
some_document bytes read text spelled = rw (document_read bytes read text spelled)

pub no_document : (bytes : List ℕ) → (IsUtf8 bytes → parse_document bytes ≡ None) → document_of bytes ≡ None
unfolding document_of
no_document bytes refused =
    elim (cases_Bool (is_utf8 bytes)) [
      | inl text ↦ rw text (refused (IsUtf8-from_is_utf8 bytes text))
      | inr other ↦ rw other
    ]
