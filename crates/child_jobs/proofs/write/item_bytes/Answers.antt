use Rattle.std.proofs.Common.{ℕ, List, ◌++◌, [], ◌∷◌, ◌∙◌, ap}
use Rattle.std.specs.List.{flat_map}
use Rattle.std.proofs.lemmas.Grind.{flat_map-append}
use Rattle.byteorder.specs.Endian.{little_bytes}
use Rattle.byte_format.specs.Keys.{key_bytes}
use Rattle.child_jobs.proofs.write.item_bytes.Goals as goal

pub returns : goal.returns
unfolding key_bytes
returns c =
    let weight = c.args.item.now.weight in
    c.write_u32_into.ensures
    ∙ ap (λ (words : List ℕ). flat_map (little_bytes 4) (words ++ weight ∷ []))
    (c.copy_from_slice.ensures.after ∙ c.words.ensures.value)
    ∙ flat_map-append (little_bytes 4) c.args.item.now.key (weight ∷ [])
