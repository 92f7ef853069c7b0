use Rattle.rubis_shard.proofs.Common.{◌≡◌, ◌≤◌, length, take, row_key}
use Rattle.rubis_shard.specs.Chains.{chains_of, Links, chain_written}
use Rattle.rubis_shard.proofs.chains.Chains.link.Given as goal

abbrev pub invariant-loop-at : goal.invariant-loop-at
invariant-loop-at l = record {
  size : length l.self.before.items ≡ l.at;
  below : l.at ≤ l.at-end;
  links : Links (take l.at (chains_of (chain_written row_key l.rows.entries))) l.self;
}
