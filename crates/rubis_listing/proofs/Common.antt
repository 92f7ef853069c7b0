-- The names of the crates below that several of these proofs cite, passed on from one place. Declares nothing.
pub use Rattle.std.proofs.Common.{Bool, List, [], ap, arith, cond, drop, false, inl, inr, length, length-append, refl, rules, subst, sym, true, ℕ}
pub use Rattle.std.proofs.Common.{◌*◌, ◌++◌, ◌+◌, ◌-◌, ◌<◌, ◌∙◌, ◌∷◌, ◌≡◌, ◌≤◌}
pub use Rattle.std.specs.Prelude.{IfOk, None, Option, filter, not, slice_index_or, slice_range}
pub use Rattle.std.proofs.lemmas.Grind.{flat_map-append}
pub use Rattle.std.proofs.lemmas.List.{append-nil}
pub use Rattle.std.specs.List.{AllZip, range_with_len}
pub use Rattle.std.specs.Vec.Iter.{into_iter_items}
pub use Rattle.rubis_schema.specs.Keys.{holds}
pub use Rattle.rubis_schema.specs.Tables.{Tables, shows_nothing}
pub use Rattle.rubis_schema.specs.declared.listings.Listing.{Listing}
pub use Rattle.rubis_schema.specs.declared.row_keys.RowKey.{RowKey}
pub use Rattle.rubis_schema.specs.declared.row_keys.Table.{Table}
pub use Rattle.rubis_schema.specs.declared.rows.CatRow.{CatRow}
pub use Rattle.rubis_schema.specs.declared.rows.Row.{Row}
pub use Rattle.rubis_shadow.specs.Tables.{rows_of}
pub use Rattle.rubis_model.specs.Listings.{category_record, log_record, misfit_rows, records_of, row_record, table_rows}
unfoldable pub use Rattle.rubis_model.specs.Listings.{log_from}
pub use Rattle.rubis_shard.specs.Holdings.{union}
pub use Rattle.rubis_shard.specs.Listed.{number_of_table, recorded_from}
