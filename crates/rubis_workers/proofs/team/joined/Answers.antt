use Rattle.rubis_workers.proofs.Common.{length, ap, arith, length-append, PassState}
use Rattle.rubis_workers.proofs.Folded.{part_length}
use Rattle.rubis_workers.proofs.team.joined.Goals as goal

pub unreachable-requires : goal.unreachable-requires
unreachable-requires g c =
    let long = part_length c.join-pass.result.posted c.join-pass.result.taken c.join-pass.ensures.posted in
    let both = ap (λ (p : PassState). length p.taken) c.join-pass.ensures.both in
    let posted = ap (λ (p : PassState). length p.posted) c.join-pass.ensures.both in
    let sum = length-append c.args.ours.pass.taken c.args.theirs.taken in
    let mine = c.requires.ours in
    let more = c.requires.theirs in
    let room = c.requires.room in
    let theirs_ok = c.args.done.ok in
    let mine_ok = c.args.ours.list.ok in
    let full = c.in-Err.ensures.full in
    omega arith
