use Rattle.rubis_shard.proofs.Common.{◌≡◌, ◌++◌, ◌<◌, ◌≤◌, ◌-◌, List, length, take, reverse, get_or, None, Some, RowKey, Row}
use Rattle.rubis_shard.specs.Chains.{chains_of}
use Rattle.rubis_shard.specs.Listed.{listed_among, table_with}
use Rattle.rubis_shard.specs.Rows.{kept_of, linked_of}
use Rattle.rubis_shard.proofs.picks.pick_of_chain.Given as goal

abbrev pub invariant-loop-place : goal.invariant-loop-place
invariant-loop-place l = record {
  within : l.place ≤ length (linked_of l.rows);
  inside : l.place ≤ length (kept_of l.rows);
  own : 0 < l.place → get_or (chains_of (linked_of l.rows)) (l.place - 1) None ≡ Some l.chain;
  walked : (added : List (RowKey × Row)) × (l.picked.items ≡ l.fn.picked.items ++ added)
      × (listed_among l.listing (table_with l.table) (take l.place (linked_of l.rows)) ++ reverse added
      ≡ listed_among l.listing (table_with l.table) (linked_of l.rows));
}

abbrev pub decreases-loop-place : goal.decreases-loop-place
decreases-loop-place l = l.place
