use Rattle.std.proofs.Common.{◌≡◌, map, take}
use Rattle.replay_jobs.specs.Grouped.{job_number}
use Rattle.replay_jobs.proofs.share.job_numbers.Given as goal

abbrev pub invariant-loop-packet : goal.invariant-loop-packet
invariant-loop-packet l = l.numbers.items ≡ map (job_number l.switches l.placement) (take l.packet-index l.routed)
