use Rattle.measure_laws.proofs.Central.{block_is_central, block_without_levels, change_is_central, view_is_central}
use Rattle.measure_laws.proofs.laws.central_blocks.Goals as goal

pub returns : goal.returns
returns c = record {
  view = view_is_central;
  block = block_is_central;
  without_levels = block_without_levels;
  change = change_is_central;
}
