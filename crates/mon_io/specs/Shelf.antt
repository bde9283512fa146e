-- What is left of the picked file.
use Rattle.std.specs.Prelude.{ℕ, List, drop}
use Rattle.mon_io.specs.Files.{contents_at}
use Rattle.mon_io.specs.declared.shelf.Shelf.{Shelf}

abbrev pub shelf_rest : Shelf → List ℕ
shelf_rest shelf = drop shelf.at (contents_at shelf.files.items shelf.picked)
