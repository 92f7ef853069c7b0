use Rattle.rubis_workers.proofs.Common.{◌+◌, ◌∙◌, refl, subst, arith, List, slice_range, cores, ShardState, AreFollowed}
use Rattle.rubis_workers.proofs.Applied.{nothing}
use Rattle.rubis_workers.proofs.applying.apply_together.Goals as goal

pub returns-in_default-clause-err : goal.returns-in_default-clause-err
returns-in_default-clause-err g c =
    let b = c.args.batch.now in
    nothing b.log.now b.from b.upto c.args.tables.now c.args.tables.now c.stop_all.new.stops.items (let p = c.requires.pending in omega (arith, p)) refl
    (c.stop_all.ensures.many ∙ c.len-shards.ensures) (λ k l. c.stop_all.ensures.at k (let e = c.len-shards.ensures in omega (arith, e, l)))

pub put_back-requires-clause-folded : goal.put_back-requires-clause-folded
put_back-requires-clause-folded g c =
    let b = c.args.batch.now in
    let f = c.in-Ok-follow_by_team.followed.counted in (
      c.args.tables.now,
      record {
        set = record { some = c.requires.some; order = c.take.ensures.order };
        folded =
            subst (λ (ss : List ShardState). AreFollowed (b.from + 1) (cores (slice_range b.log.now b.from b.upto)) ss f.shards f.dones) c.take.ensures.list
            c.in-Ok-follow_by_team.ensures.followed;
      },
      c.requires.room,
    )
