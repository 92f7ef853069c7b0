-- The words of shards, passed on.
pub use Rattle.rubis_shard.proofs.Unions.{union_of_log}
