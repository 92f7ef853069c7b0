use Rattle.std.proofs.Common.{◌≡◌, ◌++◌}
use Rattle.rubis_schema.specs.declared.row_keys.RowKey.TheVariants as key
use Rattle.rubis_shard.specs.Listed.{shown_among}
use Rattle.rubis_shard.specs.Chains.{chain_written}
use Rattle.rubis_shard.proofs.picks.pick_shown.Given as goal

abbrev pub invariant-loop-cat : goal.invariant-loop-cat
invariant-loop-cat l =
    l.picked.items ++ shown_among (chain_written key.Cat l.cat-iterator) ≡ l.fn.picked.items ++ shown_among (chain_written key.Cat l.initial.cat-iterator)
