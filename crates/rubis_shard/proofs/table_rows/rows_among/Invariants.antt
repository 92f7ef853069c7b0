use Rattle.std.proofs.Common.{◌≡◌, ◌++◌, map as each}
use Rattle.rubis_schema.specs.declared.listings.Listing.TheVariants as listing
use Rattle.rubis_shard.specs.Listed.{listed_among}
use Rattle.rubis_shard.specs.Chains.{lent_row, chain_written}
use Rattle.rubis_shard.proofs.table_rows.rows_among.Given as goal

abbrev pub invariant-loop-key : goal.invariant-loop-key
invariant-loop-key g l =
    each lent_row l.rows.items ++ listed_among listing.Tables l.table (chain_written g.K.MapKey.row_key l.key-iterator)
    ≡ listed_among listing.Tables l.table (chain_written g.K.MapKey.row_key l.initial.key-iterator)
