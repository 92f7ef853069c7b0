-- The words of shards, passed on.
pub use Rattle.rubis_shard.specs.Holdings.{HoldsLog, shard_of_log, union}
pub use Rattle.rubis_shard.specs.States.{ShardState}
pub use Rattle.rubis_shard.specs.contracts.tables.Tables as Tables
