use Rattle.rubis_pieces.proofs.Common.{◌≡◌, ◌+◌, ◌≤◌, ◌++◌, length, map as each, flat_map, vec_len, vec_capacity, into_iter_items, into_iter_len}
use Rattle.rubis_pieces.specs.declared.pieces.Done.{Done}
use Rattle.rubis_pieces.specs.Batches.{share_left}
use Rattle.rubis_pieces.proofs.gathers.gather.Given as goal

abbrev pub invariant-loop-done : goal.invariant-loop-done
invariant-loop-done l = record {
  shards : l.shards.items ++ each (λ (d : Done). d.shard) (into_iter_items l.done-iterator) ≡ each (λ (d : Done). d.shard)
      (into_iter_items l.initial.done-iterator);
  left : l.left.items ++ flat_map share_left (into_iter_items l.done-iterator) ≡ flat_map share_left (into_iter_items l.initial.done-iterator);
  counted : into_iter_len l.done-iterator ≡ length (into_iter_items l.done-iterator);
  shard_room : vec_len l.shards + length (into_iter_items l.done-iterator) ≤ vec_capacity l.shards;
  left_room : vec_len l.left + length (into_iter_items l.done-iterator) ≤ vec_capacity l.left;
}
