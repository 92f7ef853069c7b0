use Rattle.rubis_shard.proofs.Common.{length, arith, take_all}
use Rattle.rubis_shard.specs.Rows.{kept_of}
use Rattle.rubis_shard.proofs.OneTable.{written_length}
use Rattle.rubis_shard.proofs.Linking.{if_done}
use Rattle.rubis_shard.proofs.row_map.LinkedRows.link.Goals as goal

pub returns-clause-all : goal.returns-clause-all
returns-clause-all c =
    if_done _ _ (λ all. take_all (length c.link.new.self.before.items) (kept_of c.args.self.now)
    (omega (arith, all, written_length c.args.self.now.rows.entries))) _ c.link.ensures.all
