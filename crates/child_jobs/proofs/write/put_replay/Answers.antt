use Rattle.std.proofs.Common.{◌≡◌, ◌++◌, [], List, ℕ, ◌∙◌, ap}
use Rattle.std.specs.List.{flat_map}
use Rattle.std.proofs.lemmas.Result.{on_ok_weaker}
use Rattle.hash_family.specs.Setting.{setting_of}
use Rattle.job_format.specs.Job.{replay_head, frame_bytes}
use Rattle.child_jobs.proofs.Written.{kept_on, written_on}
use Rattle.child_jobs.proofs.write.put_replay.Goals as goal

pub returns-in_err-put_frames-clause-kept : goal.returns-in_err-put_frames-clause-kept
returns-in_err-put_frames-clause-kept c =
    kept_on c.args.out.now.items _ c.put.new.out.items c.put_frames.new.out.items c.in_ok-put.ensures.written
    c.put_frames.ensures.kept

pub returns-clause-written : goal.returns-clause-written
returns-clause-written c =
    let head = replay_head c.args.job (setting_of c.args.params.now) in
    let first : c.put.new.out.items ≡ c.args.out.now.items ++ head =
    c.in_ok-put.ensures.written ∙ ap (λ (bytes : List ℕ). c.args.out.now.items ++ bytes) c.replay_head.ensures in
    let put = c.in_ok-put_frames.ensures.written in
    on_ok_weaker c.put_frame.result
    (λ last. (
      put.0,
      put.1,
      written_on c.args.out.now.items head (flat_map frame_bytes put.0 ++ frame_bytes []) c.put.new.out.items
          c.put_frame.new.out.items first
          (written_on c.put.new.out.items (flat_map frame_bytes put.0) (frame_bytes []) c.put_frames.new.out.items
          c.put_frame.new.out.items put.2 last),
    ))
    c.put_frame.ensures.written

pub returns-clause-kept : goal.returns-clause-kept
returns-clause-kept c =
    let put = c.in_ok-put_frames.ensures.written in
    kept_on c.args.out.now.items _ c.put_frames.new.out.items c.put_frame.new.out.items
    (written_on c.args.out.now.items _ _ c.put.new.out.items c.put_frames.new.out.items c.in_ok-put.ensures.written
    put.2)
    c.put_frame.ensures.kept
