use Rattle.rubis_workers.proofs.Common.{◌≡◌, length, map as each, ◌∙◌, subst, IsPermutation, length-map, IsPermutation-trans, length_permutation}
use Rattle.rubis_workers.proofs.Common.{IsFault, numbers_of, IsCounted}
use Rattle.rubis_workers.specs.Work.{bare}
use Rattle.rubis_workers.proofs.Counts.{followed, no_fault}
use Rattle.rubis_workers.proofs.following.gather_shards.Goals as goal

pub unreachable-requires : goal.unreachable-requires
unreachable-requires c =
    let (first, batch, ss, has) = c.requires.followed in
    let many : c.args.places ≡ length ss =
    c.requires.room.0 ∙ length_permutation (each bare ss) c.args.pass.posted has.posted ∙ length-map ss bare in
    no_fault first batch ss c.args.pass.taken c.args.list.items has.order
    (IsPermutation-trans (each bare ss) c.args.pass.posted c.args.pass.taken has.posted c.close.ensures) has.worked c.in-Err.field-0.kind
    (subst (λ n. IsFault n (numbers_of c.args.list.items) c.in-Err.field-0.kind) many c.in-Err.ensures.fault)

pub returns-clause-shards : goal.returns-clause-shards
returns-clause-shards c = λ first batch ss has.
    let many : c.args.places ≡ length ss =
    c.requires.room.0 ∙ length_permutation (each bare ss) c.args.pass.posted has.posted ∙ length-map ss bare in
    followed first batch ss c.args.pass.taken c.args.list.items has.order
    (IsPermutation-trans (each bare ss) c.args.pass.posted c.args.pass.taken has.posted c.close.ensures) has.worked c.in-Ok.counted
    (subst (λ n. IsCounted n c.args.list.items c.in-Ok.counted) many c.in-Ok.ensures.counted)
