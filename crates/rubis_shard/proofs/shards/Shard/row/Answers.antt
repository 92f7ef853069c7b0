use Rattle.rubis_shard.proofs.Common.{sym, ap, ◌∙◌, key_order, Option}
use Rattle.std.specs.FinMap as map
use Rattle.rubis_shard.specs.States.{ShardState, held_by, held_in}
use Rattle.rubis_shard.specs.declared.shard_store.Store.{Store}
use Rattle.rubis_shard.proofs.shards.Shard.row.Goals as goal

pub returns-in-Some-clause-row : goal.returns-in-Some-clause-row
returns-in-Some-clause-row c =
    c.row.ensures
    ∙ ap (λ (s : Store). map.get (held_by s).tables c.args.key.now) c.deref.ensures
    ∙ ap (λ (o : Option Store). map.get (held_in o).tables c.args.key.now) (sym c.in-Some.is)
    ∙ ap (λ (s : ShardState). map.get s.folded.tables c.args.key.now) c.self.view_is

pub returns-in-None-clause-row : goal.returns-in-None-clause-row
returns-in-None-clause-row c =
    sym (map.get-empty key_order c.args.key.now)
    ∙ ap (λ (o : Option Store). map.get (held_in o).tables c.args.key.now) (sym c.in-None.is)
    ∙ ap (λ (s : ShardState). map.get s.folded.tables c.args.key.now) c.self.view_is
