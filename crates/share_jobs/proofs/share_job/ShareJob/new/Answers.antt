use Rattle.std.proofs.Common.{List, ℕ, Vec, Global, map, arith}
use Rattle.hash_family.specs.Setting.{setting_of}
use Rattle.job_format.specs.Job.{IsReplayJob}
use Rattle.share_jobs.proofs.Heads.{pieces_spell, spelled_head}
use Rattle.share_jobs.specs.Heads.{joined}
use Rattle.share_jobs.proofs.share_job.ShareJob.new.Goals as goal

abbrev bytes_in : Vec ℕ Global → List ℕ
bytes_in piece = piece.items

pub invariant_of-result : goal.invariant_of-result
invariant_of-result c =
    let pieces = map bytes_in c.in_ok-pieces.pieces.items in
    let setting = setting_of c.args.params.now in
    let within : IsReplayJob (record { number = c.args.number; setting = setting; items = c.args.items.now }) = record {
      number = c.ranges.number.fits;
      setting = c.check_setting.ensures;
      each = c.check_items.ensures;
      few = c.requires.few;
      light = c.requires.light;
    } in
    record {
      few = omega (arith, c.in_ok-pieces.ensures.few, c.requires.few);
      spelled = rw c.weight_of-weight.ensures.weight (spelled_head (record { number = c.args.number; setting = setting; items = c.args.items.now })
          (joined pieces)
          (pieces_spell c.args.number setting c.args.items.now pieces within c.in_ok-pieces.ensures.pieces));
    }

pub returns-clause-spells : goal.returns-clause-spells
returns-clause-spells c =
    pieces_spell c.args.number (setting_of c.args.params.now) c.args.items.now
    (map bytes_in c.in_ok-pieces.pieces.items) (record {
      number = c.ranges.number.fits;
      setting = c.check_setting.ensures;
      each = c.check_items.ensures;
      few = c.requires.few;
      light = c.requires.light;
    }) c.in_ok-pieces.ensures.pieces
