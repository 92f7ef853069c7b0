use Rattle.rubis_model.proofs.Shares.{parts_commute}
use Rattle.rubis_shard.proofs.Logs.{set_of_log, batch_at_home}
use Rattle.rubis_shard.proofs.Unions.{union_of_log}
use Rattle.rubis_shard.proofs.laws.shards_hold_logs.Goals as goal

pub returns-clause-set : goal.returns-clause-set
returns-clause-set c = set_of_log

pub returns-clause-tables : goal.returns-clause-tables
returns-clause-tables c = union_of_log

pub returns-clause-batch : goal.returns-clause-batch
returns-clause-batch c = batch_at_home

pub returns-clause-commute : goal.returns-clause-commute
returns-clause-commute c = parts_commute
