use Rattle.rubis_shard.proofs.Common.{◌≡◌, ap, ◌∙◌, part_of}
use Rattle.rubis_shard.specs.States.{ShardState, held_by}
use Rattle.rubis_shard.specs.Holdings.{emptied}
use Rattle.rubis_shard.proofs.Single.{all_rows}
use Rattle.rubis_shard.proofs.shards.Shard.fold_whole.Goals as goal

pub put_store-requires : goal.put_store-requires
put_store-requires c =
    let left : c.take_store.new.self ≡ emptied c.args.self.now = c.in_ok-store.ensures.left in
    let held = (held_by c.fold_whole-folded.new.self).tables in
    let shards : c.take_store.new.self.shards ≡ 1 = ap (λ (s : ShardState). s.shards) left ∙ c.requires.shards in
    let number : c.take_store.new.self.number ≡ 0 = ap (λ (s : ShardState). s.number) left ∙ c.requires.number in
    (λ i. part_of (shards i) (number i) held) ∙ all_rows held
