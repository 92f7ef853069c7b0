-- The names of the crates below that several of these proofs cite, passed on from one place. Declares nothing.
pub use Rattle.std.proofs.Common.{Bool, List, [], ap, append_assoc, arith, cond, drop, false, get_or, length, length-append, map, refl, rules, set}
pub use Rattle.std.proofs.Common.{subst, suc, sym, take, true, zero, ℕ, ⊎_elim, ◌*◌, ◌++◌, ◌+◌, ◌-◌, ◌<◌, ◌∙◌, ◌∷◌, ◌≡◌, ◌≤◌}
pub use Rattle.std.specs.Prelude.{Err, IfOk, None, Ok, Option, Some, filter, flat_map, nat_eq, nat_lt, slice_get, slice_index, slice_range, sum_by, ⊤}
pub use Rattle.std.proofs.lemmas.Bool.{cases_eq, cases_lt}
pub use Rattle.std.proofs.lemmas.Bool.Decides.{Decides-eqb, nat_tests}
pub use Rattle.std.proofs.lemmas.List.{append-nil, drop-drop, drop_all, get_or-map, length-drop, length-map, length-set, length-take-le}
pub use Rattle.std.proofs.lemmas.List.{nil_from_length, same_lists, take-map, take_all, take_more}
pub use Rattle.std.proofs.lemmas.List.Sorted.{IsNonDecreasingBy-from_sort_by_key}
pub use Rattle.std.proofs.lemmas.List.Sums.{sum_by-cons}
pub use Rattle.std.proofs.lemmas.Option.{get_or_from_slice_get, slice_get-get_or, slice_get_read, slice_get_within}
pub use Rattle.std.specs.Global.{Vec}
pub use Rattle.std.specs.List.{AllZip, range_with_len}
pub use Rattle.std.specs.List.Sorted.{IsNonDecreasingBy, IsPermutation}
pub use Rattle.std.specs.Vec.{vec_capacity, vec_len}
pub use Rattle.std.specs.Vec.Iter.{into_iter_items, into_iter_len}
unfoldable pub use Rattle.rubis_schema.specs.Keys.{home}
pub use Rattle.rubis_schema.specs.declared.ids.Id.{Id}
pub use Rattle.rubis_shadow.proofs.Footprint.{few_parts}
pub use Rattle.rubis_shadow.specs.declared.keyed_change.Effect.{Effect}
pub use Rattle.rubis_shadow.specs.declared.numbered.Numbered.{Numbered}
pub use Rattle.rubis_message.specs.Message.{IsMessage, Message}
pub use Rattle.rubis_model.proofs.InPlace.{home_within}
pub use Rattle.rubis_model.proofs.Settling.{cores_push}
pub use Rattle.rubis_model.proofs.Shares.{numbered_append}
pub use Rattle.rubis_model.specs.Log.{Core, core, cores, number_parts, numbered_from, parts_of, share}
pub use Rattle.rubis_shard.proofs.Folds.{not_equal, of_ok, with_append}
pub use Rattle.rubis_shard.proofs.Logs.{shard_with_share}
pub use Rattle.rubis_shard.proofs.Parts.{parts_at_append}
pub use Rattle.rubis_shard.proofs.Picked.{below_or_last, written_elsewhere, written_here}
pub use Rattle.rubis_shard.specs.Holdings.{AreHomes, AreHomesOf, HoldsLog, all_misfits, core_of, numbered_of, parts_at, shard_of_log}
pub use Rattle.rubis_shard.specs.States.{ShardState, with_parts}
pub use Rattle.rubis_shard.specs.declared.entries.LogEntry.{LogEntry}
pub use Rattle.rubis_shard.specs.declared.part_homes.PartHomes.{PartHomes}
pub use Rattle.rubis_shard.specs.declared.shares.Share.{Share}
