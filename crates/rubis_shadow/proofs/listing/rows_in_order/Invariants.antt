use Rattle.std.proofs.Common.{◌≡◌, ◌++◌, map as each}
use Rattle.std.specs.Prelude.{filter}
use Rattle.std.specs.Map.Iter.{deref_pair}
use Rattle.rubis_schema.specs.Keys.{holds}
use Rattle.rubis_shadow.proofs.listing.rows_in_order.Given as goal

abbrev pub invariant-loop-key : goal.invariant-loop-key
invariant-loop-key l = each deref_pair l.rows.items ++ filter (λ e. holds l.table e.0) l.key-iterator ≡ filter (λ e. holds l.table e.0) l.initial.key-iterator
