use Rattle.rubis_pieces.proofs.Common.{◌≡◌, ◌+◌, ◌≤◌, ◌++◌, length, map as each, vec_len, vec_capacity, into_iter_items, into_iter_len}
use Rattle.rubis_pieces.specs.declared.pieces.Done.{Done}
use Rattle.rubis_pieces.proofs.gathers.gather_counted.Given as goal

abbrev pub invariant-loop-done : goal.invariant-loop-done
invariant-loop-done l = record {
  shards : l.shards.items ++ each (λ (d : Done). d.shard) (into_iter_items l.done-iterator) ≡ each (λ (d : Done). d.shard)
      (into_iter_items l.initial.done-iterator);
  dones : l.dones.items ++ each (λ (d : Done). d.done) (into_iter_items l.done-iterator) ≡ each (λ (d : Done). d.done)
      (into_iter_items l.initial.done-iterator);
  counted : into_iter_len l.done-iterator ≡ length (into_iter_items l.done-iterator);
  shard_room : vec_len l.shards + length (into_iter_items l.done-iterator) ≤ vec_capacity l.shards;
  done_room : vec_len l.dones + length (into_iter_items l.done-iterator) ≤ vec_capacity l.dones;
}
