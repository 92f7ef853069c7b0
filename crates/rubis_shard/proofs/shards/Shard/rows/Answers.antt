use Rattle.rubis_shard.proofs.Common.{sym, ap, ◌∙◌, map as each, Option, rows_of}
use Rattle.rubis_shard.specs.Chains.{lent_row}
use Rattle.rubis_shard.specs.States.{ShardState, held_in}
use Rattle.rubis_shard.specs.declared.shard_store.Store.{Store}
use Rattle.rubis_shard.proofs.Openings.{no_rows}
use Rattle.rubis_shard.proofs.shards.Shard.rows.Goals as goal

pub returns-in-None-clause-rows : goal.returns-in-None-clause-rows
returns-in-None-clause-rows c =
    ap (each lent_row) c.new.ensures.items ∙ sym (no_rows c.args.table)
    ∙ ap (λ (o : Option Store). rows_of c.args.table (held_in o).tables) (sym c.in-None.is)
    ∙ ap (λ (s : ShardState). rows_of c.args.table s.folded.tables) c.self.view_is
