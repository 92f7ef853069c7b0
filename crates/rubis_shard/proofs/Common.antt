-- The names of the crates below that several of these proofs cite, passed on from one place. Declares nothing.
pub use Rattle.std.proofs.Common.{Bool, Bor, List, T, [], ap, append_assoc, arith, cond, drop, false, get_or, inl, inr, length, length-append}
pub use Rattle.std.proofs.Common.{length-set, map, refl, reverse, rules, set, subst, suc, sym, take, true, zero, ℕ, ⊎_elim, ◌&&◌, ◌++◌, ◌+◌, ◌-◌, ◌<◌}
pub use Rattle.std.proofs.Common.{◌∙◌, ◌∷◌, ◌≡◌, ◌≤◌}
pub use Rattle.std.specs.Prelude.{Err, IfSome, None, Ok, OnOk, Option, Result, Some, bytes_eq, filter, flat_map, is_none, is_some, nat_eq, nat_le}
pub use Rattle.std.specs.Prelude.{option_map, slice_get, slice_index_or, slice_range}
pub use Rattle.indexmap.specs.IndexMap.{insert_entry}
pub use Rattle.std.proofs.lemmas.Bool.{cases_lt, false≢true}
pub use Rattle.std.proofs.lemmas.Bool.Decides.{Decides-eqb}
pub use Rattle.std.proofs.lemmas.List.{append-nil, drop_all, get_or-map, length-map, take_all, take_at, take_more}
pub use Rattle.std.proofs.lemmas.List.Elements.{filter-append}
pub use Rattle.std.proofs.lemmas.List.Sorted.{IsPermutation-append_left, IsPermutation-append_right, IsPermutation-refl, IsPermutation-sym}
pub use Rattle.std.proofs.lemmas.List.Sorted.{IsPermutation-trans, answers_always, ranks_by}
pub use Rattle.std.proofs.lemmas.Map.Made.{IsDistinct-keys_filter}
pub use Rattle.std.proofs.lemmas.Option.{get_or_from_slice_get, slice_get-get_or, slice_get_read, slice_get_within}
pub use Rattle.std.specs.FinMap.Entries.{below_all, is_sorted}
pub use Rattle.std.specs.List.{All, AllByRecursion}
unfoldable pub use Rattle.std.specs.List.{IsDistinct}
pub use Rattle.std.specs.List.Sorted.{IsPermutation, IsSortedByKey}
pub use Rattle.std.specs.Map.{keys_of, lookup, set_value}
pub use Rattle.std.specs.Map.Iter.{deref_pair}
pub use Rattle.std.specs.Option.{unwrap_or}
pub use Rattle.std.specs.Ordering.{is_lt, nat_cmp}
pub use Rattle.std.specs.declared.cmp.Ordering.{Ordering}
pub use Rattle.std.specs.declared.cmp.Ordering.TheVariants.{Equal, Greater, Less}
pub use Rattle.rubis_schema.specs.IdKeyLaws.{same_as_row_keys}
pub use Rattle.rubis_schema.specs.KeyLaws.{Decides-key_eq, key_eq_equiv, key_total}
pub use Rattle.rubis_schema.specs.Keys.{holds, key_eq, row_key, same_id_key}
unfoldable pub use Rattle.rubis_schema.specs.Keys.{home, key_order}
pub use Rattle.rubis_schema.specs.Tables.{Tables}
pub use Rattle.rubis_schema.specs.declared.id_keys.IdKey.{IdKey}
pub use Rattle.rubis_schema.specs.declared.id_keys.IdTable.{IdTable}
pub use Rattle.rubis_schema.specs.declared.ids.Id.{Id}
pub use Rattle.rubis_schema.specs.declared.listings.Listing.{Listing}
pub use Rattle.rubis_schema.specs.declared.row_keys.RowKey.{RowKey}
pub use Rattle.rubis_schema.specs.declared.row_keys.Table.{Table}
pub use Rattle.rubis_schema.specs.declared.rows.ItemRow.{ItemRow}
pub use Rattle.rubis_schema.specs.declared.rows.Row.{Row}
pub use Rattle.rubis_schema.specs.declared.rows.Sale.{Sale}
pub use Rattle.rubis_shadow.proofs.Entries.{first_of}
pub use Rattle.rubis_shadow.proofs.Footprint.{few_parts}
pub use Rattle.rubis_shadow.proofs.Listed.{rows_listed}
pub use Rattle.rubis_shadow.proofs.Rows.{after_none, get_tables_of, lookup_find, misfit_none, none_of, put_then, row_stays, tables_of}
pub use Rattle.rubis_shadow.specs.Changes.{Done, after_part, count_up, fits_as, if_open, misfits_as, with_row}
unfoldable pub use Rattle.rubis_shadow.specs.Changes.{change_row}
pub use Rattle.rubis_shadow.specs.Freed.{FreesOnlyNicks, IsNickKey}
pub use Rattle.rubis_shadow.specs.Shadows.{parts}
pub use Rattle.rubis_shadow.specs.Tables.{HasBoxedRow, new_category, rows_of}
unfoldable pub use Rattle.rubis_shadow.specs.Tables.{categories_from, opening}
pub use Rattle.rubis_shadow.specs.declared.changes.Change.{Change}
pub use Rattle.rubis_shadow.specs.declared.changes.MisfitKind.TheVariants.{StockShort}
pub use Rattle.rubis_shadow.specs.declared.keyed_change.Effect.{Effect}
pub use Rattle.rubis_shadow.specs.declared.numbered.Numbered.{Numbered}
pub use Rattle.rubis_model.proofs.Shares.{get-part_of, same_tables}
pub use Rattle.rubis_model.specs.Listings.{is_of}
pub use Rattle.rubis_model.specs.Log.{Core, Folded, fold_of, fold_on, number_parts, parts_of, share, step}
pub use Rattle.rubis_model.specs.Shares.{part_of}
