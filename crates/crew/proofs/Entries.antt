-- One entry more.
use Rattle.std.proofs.Common.{◌≡◌, List, [], ◌∷◌, ◌++◌, length, map, ◌∙◌, ap}
use Rattle.std.specs.Prelude.{reverse}
use Rattle.std.proofs.lemmas.List.{length-map, length-reverse, map-append, reverse-append}
use Rattle.crew.specs.Log.{Entry}
use Rattle.crew.specs.Kept.{entry_of, log_of}
use Rattle.crew.specs.declared.log.LogEntry.{LogEntry}

pub log_length : (entries : List LogEntry) → length (log_of entries) ≡ length entries
unfolding log_of
log_length entries = length-reverse (map entry_of entries) ∙ length-map entries entry_of

pub log_push : (entries : List LogEntry) (entry : LogEntry)
    → log_of (entries ++ entry ∷ []) ≡ entry_of entry ∷ log_of entries
unfolding log_of
log_push entries entry = ap (λ (xs : List Entry). reverse xs) (map-append entry_of entries (entry ∷ []))
    ∙ reverse-append (map entry_of entries) (entry_of entry ∷ [])
