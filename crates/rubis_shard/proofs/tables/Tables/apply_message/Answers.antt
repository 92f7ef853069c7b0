use Rattle.rubis_shard.proofs.Common.{◌≡◌, List, sym, subst, rules, OnOk, take_at}
use Rattle.rubis_shard.specs.States.{ShardState}
use Rattle.rubis_shard.specs.Holdings.{core_of, numbered_of, AreInOrder, FoldsFrom}
use Rattle.rubis_shard.proofs.Homes.{order_kept, takes_on_ok}
use Rattle.rubis_shard.proofs.tables.Tables.apply_message.Goals as goal

pub invariant_of-self : goal.invariant_of-self
invariant_of-self c =
    let old : List ShardState = c.deref_mut.result.now in
    let new : List ShardState = c.fold_parts.new.list in
    let same : old ≡ c.self.inside.shards.items = search rules in
    let whole = take_at new _ c.self.inside.shards.len (search rules) in
    subst AreInOrder (sym whole)
    (order_kept old new (numbered_of c.args.entry.now) c.fold_parts.result (subst AreInOrder (sym same) c.self.invariant) c.fold_parts.ensures.ok
    c.fold_parts.ensures.err)

pub returns-clause-log : goal.returns-clause-log
returns-clause-log c =
    let new : List ShardState = c.fold_parts.new.list in
    let same : c.deref_mut.result.now ≡ c.args.self.now = search rules in
    let whole = take_at new _ c.self.inside.shards.len (search rules) in
    takes_on_ok (core_of c.args.entry.now) c.args.entry.now.number c.args.self.now new _ c.fold_parts.result
    (subst (λ ts. OnOk c.fold_parts.result (FoldsFrom 0 ts (numbered_of c.args.entry.now) new)) same c.fold_parts.ensures.ok)
    (sym whole)
