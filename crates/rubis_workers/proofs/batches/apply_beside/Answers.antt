use Rattle.rubis_workers.proofs.Common.{rules, ◌≡◌, length, sym, ap, subst, arith, All, All-permutation, IsFault, numbers_of, IsGathered, IsPiece}
use Rattle.rubis_workers.proofs.Common.{pieces_of, PassState}
use Rattle.rubis_workers.specs.Work.{AreWorked}
use Rattle.rubis_workers.proofs.Folded.{belong_length, all_pieces, all_taken, no_fault, gathered, applies}
use Rattle.rubis_workers.proofs.batches.apply_beside.Goals as goal

pub post_all-poster-requires-clause-many : goal.post_all-poster-requires-clause-many
post_all-poster-requires-clause-many g c =
    let same = belong_length c.args.shards.items c.args.shares.items c.requires.belong in
    let shards_ok = c.args.shards.ok in
    let shares_ok = c.args.shares.ok in
    omega arith

pub fan_out-pass-requires-clause-pieces : goal.fan_out-pass-requires-clause-pieces
fan_out-pass-requires-clause-pieces g c κs within =
    subst (All IsPiece) (sym (ap (λ (p : PassState). p.posted) c.open-board.ensures))
    (All-permutation IsPiece (pieces_of c.args.shards.items c.args.shares.items) c.post_all-poster.result.posted
    c.post_all-poster.ensures.posted
    (all_pieces c.args.shards.items c.args.shares.items c.requires.belong))

pub unreachable-requires : goal.unreachable-requires
unreachable-requires g c =
    let ss = c.args.shards.items in
    let hs = c.args.shares.items in
    let moved =
    all_taken ss hs c.post_all-poster.result.posted c.open-board.result.1 c.fan_out-pass.result.pass c.post_all-poster.ensures.posted
    (ap (λ (p : PassState). p.posted) c.open-board.ensures) (ap (λ (p : PassState). p.posted) c.fan_out-pass.ensures.pass)
    c.close.ensures in
    let many : c.in-Ok.rooms.places ≡ length ss = search rules in
    no_fault ss hs c.fan_out-pass.result.pass.taken c.fan_out-pass.result.list.items c.requires.order c.requires.belong moved
    c.fan_out-pass.ensures.done
    c.in-Err.field-0.kind (subst (λ n. IsFault n (numbers_of c.fan_out-pass.result.list.items) c.in-Err.field-0.kind) many
    c.in-Err.ensures.fault)

pub returns-clause-folded : goal.returns-clause-folded
returns-clause-folded g c =
    let ss = c.args.shards.items in
    let hs = c.args.shares.items in
    let moved =
    all_taken ss hs c.post_all-poster.result.posted c.open-board.result.1 c.fan_out-pass.result.pass c.post_all-poster.ensures.posted
    (ap (λ (p : PassState). p.posted) c.open-board.ensures) (ap (λ (p : PassState). p.posted) c.fan_out-pass.ensures.pass)
    c.close.ensures in
    let many : c.in-Ok.rooms.places ≡ length ss = search rules in
    subst (AreWorked ss hs) (sym c.into.ensures)
    (gathered ss hs c.fan_out-pass.result.pass.taken c.fan_out-pass.result.list.items c.requires.order c.requires.belong moved
    c.fan_out-pass.ensures.done
    c.in-Ok-gather.gathered (subst (λ n. IsGathered n c.fan_out-pass.result.list.items c.in-Ok-gather.gathered) many
    c.in-Ok-gather.ensures.gathered))

pub returns-clause-batch : goal.returns-clause-batch
returns-clause-batch g c =
    applies c.args.shards.items c.args.shares.items c.into.result c.requires.some (returns-clause-folded g c)
