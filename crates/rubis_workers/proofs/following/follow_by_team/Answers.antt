use Rattle.rubis_workers.proofs.Common.{◌≡◌, ◌+◌, ◌<◌, ◌≤◌, ℕ, length, map as each, sym, ap, subst, arith, Some, slice_get, All, IsPermutation}
use Rattle.rubis_workers.proofs.Common.{All-permutation, length_permutation, slice_get_within, cores, ShardState, Piece, PassState}
use Rattle.rubis_shard.specs.Holdings.{AreHomes}
use Rattle.rubis_workers.specs.Work.{bare}
use Rattle.rubis_workers.proofs.Counts.{all_bare, counts_length}
use Rattle.rubis_workers.proofs.following.follow_by_team.Goals as goal

pub fan_out-pass-requires-clause-pieces : goal.fan_out-pass-requires-clause-pieces
fan_out-pass-requires-clause-pieces g c κs within =
    let ss = c.args.shards.items in
    let batch = cores c.args.task.now.batch.now in
    let homes = c.args.task.now.homes.now in
    let entries : ℕ = c.args.task.now.first + length c.args.task.now.batch.now in
    let Fits : Piece → Type 0 =
    λ p. (p.shard.number < p.shard.shards) × AreHomes p.shard.shards batch homes × (entries ≤ 1000001) in
    let each_fits : (k : ℕ) (s : ShardState) → slice_get ss k ≡ Some s → Fits (bare s) =
    λ k s e. (
      (let number = (c.requires.order k s e).0 in
          let shards = (c.requires.order k s e).1 in
          let inside = slice_get_within ss k s e in omega arith),
      subst (λ n. AreHomes n batch homes) (sym (c.requires.order k s e).1) c.requires.homes,
      c.requires.entries,
    ) in
    All-permutation Fits (each bare ss) c.in_ok-board.field-0.pass.posted c.in_ok-board.ensures.opened.posted (all_bare Fits ss each_fits)

pub gather_shards-requires-clause-followed : goal.gather_shards-requires-clause-followed
gather_shards-requires-clause-followed g c = (
  c.args.task.now.first,
  cores c.args.task.now.batch.now,
  c.args.shards.items,
  record {
    order = c.requires.order;
    posted =
        subst (IsPermutation (each bare c.args.shards.items)) (sym (ap (λ (p : PassState). p.posted) c.fan_out-pass.ensures.pass))
        c.in_ok-board.ensures.opened.posted;
    worked = c.fan_out-pass.ensures.done;
  },
)

pub returns-clause-followed : goal.returns-clause-followed
returns-clause-followed g c =
    c.gather_shards.ensures.shards c.args.task.now.first (cores c.args.task.now.batch.now) c.args.shards.items
    (record {
      order = c.requires.order;
      posted =
          subst (IsPermutation (each bare c.args.shards.items)) (sym (ap (λ (p : PassState). p.posted) c.fan_out-pass.ensures.pass))
          c.in_ok-board.ensures.opened.posted;
      worked = c.fan_out-pass.ensures.done;
    })

pub returns-clause-others : goal.returns-clause-others
returns-clause-others g c =
    let posted = c.in_ok-board.ensures.opened.many in
    let passed = ap (λ (p : PassState). length p.posted) c.fan_out-pass.ensures.pass in
    let taken = length_permutation c.fan_out-pass.result.pass.posted c.fan_out-pass.result.pass.taken c.gather_shards.ensures.taken in
    let worked = counts_length c.args.task.now.first (cores c.args.task.now.batch.now) c.fan_out-pass.result.pass.taken c.fan_out-pass.result.list.items
    c.fan_out-pass.ensures.done in
    let others = c.fan_out-pass.ensures.others in
    let list_ok = c.fan_out-pass.result.list.ok in
    omega arith
