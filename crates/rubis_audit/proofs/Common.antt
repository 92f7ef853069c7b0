-- The names of the crates below that several of these proofs cite, passed on from one place. Declares nothing.
pub use Rattle.std.proofs.Common.{Bool, List, None, Option, Some, [], add-one, ap, append_assoc, arith, cond, drop, drop-cons, false, get_or, inl}
pub use Rattle.std.proofs.Common.{inr, length, map, refl, rules, subst, suc, sym, take, true, zero, ℕ, ⊎_elim, ◌&&◌, ◌++◌, ◌+◌, ◌-◌, ◌<◌, ◌==◌, ◌∙◌}
pub use Rattle.std.proofs.Common.{◌∷◌, ◌≡◌, ◌≢◌, ◌≤◌}
pub use Rattle.std.specs.Prelude.{IfSome, Ok, bytes_eq, filter, find, nat_lt, not, option_and_then, option_copied, option_map, reverse, slice_get}
pub use Rattle.std.specs.Prelude.{slice_index, ⊤, ◌||◌}
pub use Rattle.std.proofs.lemmas.Bool.{cases_lt}
pub use Rattle.std.proofs.lemmas.Bool.Decides.{Decides-eqb, nat_tests}
pub use Rattle.std.proofs.lemmas.List.{append-nil, drop_all, nil_from_length, take_all, take_more}
pub use Rattle.std.specs.Borrow.{Bor}
pub use Rattle.std.specs.Io.KnownBytes.{Appends}
pub use Rattle.std.specs.List.{flat_map, list_any, range_with_len}
pub use Rattle.std.specs.Option.{option_map_or, option_or}
pub use Rattle.rubis_schema.specs.Keys.{same_id}
pub use Rattle.rubis_schema.specs.Tables.{Tables}
pub use Rattle.rubis_schema.specs.declared.ids.Id.{Id}
pub use Rattle.rubis_schema.specs.declared.limits.TheConstants.{COUNTED_MAX, RECORDS_MAX}
pub use Rattle.rubis_schema.specs.declared.row_keys.RowKey.{RowKey}
pub use Rattle.rubis_shadow.specs.Shadows.{is_red, refers_of}
pub use Rattle.rubis_clock.specs.Clocks.{IsReady, MessageCounts, advanced, opening_clock}
unfoldable pub use Rattle.rubis_message.specs.Counts.{deps_of}
pub use Rattle.rubis_message.specs.Equal.{Decides-same_message}
pub use Rattle.rubis_message.specs.Message.{IsMessage, Message, dep, sites_of}
unfoldable pub use Rattle.rubis_message.specs.Readings.{packet_of}
pub use Rattle.rubis_message.specs.declared.answers.Kind.{Kind}
pub use Rattle.rubis_message.specs.declared.answers.Verdict.TheVariants.{Agree, Found}
pub use Rattle.rubis_generate.specs.Decision.{row_by_key}
pub use Rattle.rubis_model.proofs.Settling.{contained, cores_push, counted_reverse, found, has_back, has_left, has_reverse, has_right, push_cases}
pub use Rattle.rubis_model.proofs.Settling.{reds_reverse, reverse_push}
pub use Rattle.rubis_model.specs.Audit.{AreFaultless}
pub use Rattle.rubis_model.specs.AuditRecords.{Line, audit_of, line_of, logs_after, with_line}
pub use Rattle.rubis_model.specs.AuditRecords.Line.{Begin, Claim}
pub use Rattle.rubis_model.specs.Lack.{lack_rows, lack_rows_from, made_at, red_rows, waits_rows}
pub use Rattle.rubis_model.specs.Listings.{table_rows}
pub use Rattle.rubis_model.specs.Log.{core, cores}
pub use Rattle.rubis_model.specs.Site.{Has, Ready, counted, counts}
pub use Rattle.rubis_model.specs.System.{Released}
pub use Rattle.rubis_model.specs.Verdict.{Log, checks, first_of, last_red, same_rows, shown_rows, verdict}
pub use Rattle.rubis_laws.proofs.Audits.AuditReadings.{line_only}
pub use Rattle.rubis_laws.proofs.Lacking.InOrder.{log_released}
pub use Rattle.rubis_shard.specs.Holdings.{union}
pub use Rattle.rubis_release.proofs.Keeping.{clock_more, counts_at, length_counts, opening_counts, ready_by_clock}
pub use Rattle.rubis_release.specs.Release.{AllAmong, IsAmong, clock_of}
pub use Rattle.rubis_engine.proofs.ReadBack.{HasNoMark, no_mark, rows_back}
pub use Rattle.rubis_engine.proofs.RowFacts.{on_ok}
pub use Rattle.rubis_engine.proofs.RunFacts.{answers-waiting, if_ok_so, run_done}
pub use Rattle.rubis_engine.proofs.TextFacts.{text-goes}
pub use Rattle.rubis_engine.specs.Accounts.{AnswersRecord}
pub use Rattle.rubis_engine.specs.Progress.{IsRun}
pub use Rattle.rubis_engine.specs.Reading.{ReadsNext}
pub use Rattle.rubis_engine.specs.Text.{rows_text}
unfoldable pub use Rattle.rubis_engine.specs.Text.{input_records}
pub use Rattle.rubis_engine.specs.declared.service.Course.TheVariants.{Ends, GoesOn}
pub use Rattle.rubis_serving.proofs.ServedFacts.{led_whole, whole_run}
