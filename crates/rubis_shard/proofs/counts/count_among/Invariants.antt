use Rattle.std.proofs.Common.{◌≡◌, ◌+◌, length}
use Rattle.rubis_shard.specs.Listed.{recorded_from}
use Rattle.rubis_shard.specs.Chains.{chain_written}
use Rattle.rubis_shard.proofs.counts.count_among.Given as goal

abbrev pub invariant-loop-key : goal.invariant-loop-key
invariant-loop-key g l =
    l.count + length (recorded_from l.first (chain_written g.K.MapKey.row_key l.key-iterator))
    ≡ l.counted + length (recorded_from l.first (chain_written g.K.MapKey.row_key l.initial.key-iterator))
