use Rattle.rubis_shard.proofs.Common.{◌≡◌, sym, ap, ◌∙◌, subst, slice_get, Some, step, part_of}
use Rattle.rubis_shard.specs.States.{ShardState, held_by}
use Rattle.rubis_shard.specs.Holdings.{emptied}
use Rattle.rubis_shard.proofs.Folds.{part_kept, home_of_one, if_some, part_at}
use Rattle.rubis_shard.proofs.shards.Shard.apply_next.Goals as goal

pub put_store-requires : goal.put_store-requires
put_store-requires c =
    let x : ShardState = c.args.self.now in
    let part = c.in_ok-part.part in
    let left : c.take_store.new.self ≡ emptied x = c.in_ok-store.ensures.left in
    let before : held_by c.get_mut.result.now ≡ x.folded = ap held_by c.get_mut.ensures.value ∙ c.in_ok-store.ensures.taken in
    let at : slice_get c.args.share.now.effects c.args.from ≡ Some part =
    part_at _ _ c.args.from part c.index-as_slice-from.result c.as_slice.ensures c.index-as_slice-from.is c.in_ok-part.ensures
    c.requires.some in
    let held = held_by c.fold.new.self in
    subst (λ (s : ShardState). part_of s.shards s.number held.tables ≡ held.tables) (sym left)
    (part_kept x.shards x.number x.folded held part c.in_ok-store.ensures.own
    (home_of_one x c.args.share.now.effects c.args.from part c.requires.home at)
    (c.fold.ensures.folded ∙ ap (λ f. step f part) before))

pub returns-clause-ok : goal.returns-clause-ok
returns-clause-ok c =
    let x : ShardState = c.args.self.now in
    let part = c.in_ok-part.part in
    let left : c.take_store.new.self ≡ emptied x = c.in_ok-store.ensures.left in
    let before : held_by c.get_mut.result.now ≡ x.folded = ap held_by c.get_mut.ensures.value ∙ c.in_ok-store.ensures.taken in
    let at : slice_get c.args.share.now.effects c.args.from ≡ Some part =
    part_at _ _ c.args.from part c.index-as_slice-from.result c.as_slice.ensures c.index-as_slice-from.is c.in_ok-part.ensures
    c.requires.some in
    if_some _ _ part at (c.put_store.ensures ∙ (λ i. record {
      number = (left i).number;
      shards = (left i).shards;
      folded = (c.fold.ensures.folded ∙ ap (λ f. step f part) before) i;
    }))
