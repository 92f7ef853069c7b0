use Rattle.rubis_shard.proofs.Common.{◌≡◌, sym, ap, ◌∙◌, subst, fold_on, part_of}
use Rattle.rubis_shard.specs.States.{ShardState, held_by}
use Rattle.rubis_shard.specs.Holdings.{parts_at, numbered_of, emptied}
use Rattle.rubis_shard.proofs.Parts.{own_after}
use Rattle.rubis_shard.proofs.shards.Shard.fold_message.Goals as goal

pub put_store-requires : goal.put_store-requires
put_store-requires c =
    let x : ShardState = c.args.self.now in
    let ns = numbered_of c.args.message.now.entry in
    let left : c.take_store.new.self ≡ emptied x = c.in_ok-store.ensures.left in
    let before : held_by c.get_mut.result.now ≡ x.folded = ap held_by c.get_mut.ensures.value ∙ c.in_ok-store.ensures.taken in
    let number : c.self.inside.number ≡ x.number = ap (λ (s : ShardState). s.number) (c.self.view_is ∙ left) in
    let held = held_by c.fold_at.new.store in
    subst (λ (s : ShardState). part_of s.shards s.number held.tables ≡ held.tables) (sym left)
    (own_after x.shards x.number x.folded held ns c.in_ok-store.ensures.own
    (c.fold_at.ensures ∙ (λ i. fold_on (before i) (parts_at (c.requires.shards i) (number i) ns))))

pub returns-clause-ok : goal.returns-clause-ok
returns-clause-ok c =
    let x : ShardState = c.args.self.now in
    let ns = numbered_of c.args.message.now.entry in
    let left : c.take_store.new.self ≡ emptied x = c.in_ok-store.ensures.left in
    let before : held_by c.get_mut.result.now ≡ x.folded = ap held_by c.get_mut.ensures.value ∙ c.in_ok-store.ensures.taken in
    let number : c.self.inside.number ≡ x.number = ap (λ (s : ShardState). s.number) (c.self.view_is ∙ left) in
    c.put_store.ensures ∙ (λ i. record {
      number = (left i).number;
      shards = (left i).shards;
      folded = (c.fold_at.ensures ∙ (λ j. fold_on (before j) (parts_at c.args.message.now.shards (number j) ns))) i;
    })
