-- The names of the crates below that several of these proofs cite, passed on from one place. Declares nothing.
pub use Rattle.std.proofs.Common.{◌&&◌, ◌*◌, ◌++◌, ◌+ℤ◌, ◌+◌, ◌-ℤ◌, ◌-◌, ◌<◌, ◌==◌, ◌^◌, ◌||◌, ◌↔◌, ◌∙◌, ◌∷◌, ◌≡◌, ◌≢◌, ◌≤◌, ◌⊎◌, [], All, ap, append-nil}
pub use Rattle.std.proofs.Common.{append_assoc, arith, Bool, bytes_eq, codes, cond, Contains, decimal, eq-eqb, eqb-true, Err, false, filter, find, flat_map}
pub use Rattle.std.proofs.Common.{fold, get_or, get_or-set_other, get_or-set_same, IfSome, inl, inr, is_none, is_some, IsPermutation, IsSome, le-leb, le-ltb}
pub use Rattle.std.proofs.Common.{leb-true, length, length-append, length-set, List, ltb-false, ltb-true, map, min, nat_eq, nat_le, nat_lt, negsuc, None, not}
pub use Rattle.std.proofs.Common.{Ok, Option, option_and_then, option_map, pos, refl, Result, reverse, set, slice_get, slice_set, Some, subst, suc, sym, true}
pub use Rattle.std.proofs.Common.{true≢false, unsigned_abs, unwrap_or, zero, ℕ, ℤ, ⊎_elim}
pub use Rattle.std.proofs.lemmas.Bool.{and_from, and_parts, cases_eq, cases_lt, cases_order, cond_both, false_from_ne_true, not-false, not_from_true, or_cases}
pub use Rattle.std.proofs.lemmas.Bool.{or_from, or_left, or_parts, or_right}
pub use Rattle.std.proofs.lemmas.Bool.Decides.{nat_tests}
pub use Rattle.std.proofs.lemmas.Int.{ints}
pub use Rattle.std.proofs.lemmas.List.{get_or_past, length-reverse, map-append, reverse-append, reverse-reverse, set_past}
pub use Rattle.std.proofs.lemmas.List.Elements.{All-cons, All-head, All-nil, All-weaker}
pub use Rattle.std.proofs.lemmas.List.FromFn.{get_or-map-range_with_len, length-map-range_with_len}
pub use Rattle.std.proofs.lemmas.List.Sorted.{IsPermutation-middle}
pub use Rattle.std.proofs.lemmas.List.Sums.{count_by-le-length, fold_push, sum_by-cons}
pub use Rattle.std.proofs.lemmas.Option.{same_Some}
pub use Rattle.std.specs.Cmp.Lexicographic.{bytes_decides}
unfoldable pub use Rattle.std.specs.Fmt.{digits}
pub use Rattle.std.specs.List.{list_any, range_with_len}
pub use Rattle.std.specs.Option.{option_map_or, option_or}
pub use Rattle.std.specs.Prelude.{⊤}
unfoldable pub use Rattle.rubis_numbers.specs.Numbers.{number_of}
unfoldable pub use Rattle.rubis_schema.specs.FieldForms.{nick_of}
pub use Rattle.rubis_schema.specs.Ids.{IsId}
pub use Rattle.rubis_schema.specs.KeyLaws.{Decides-same_id}
pub use Rattle.rubis_schema.specs.Keys.{key_eq, same_id}
pub use Rattle.rubis_schema.specs.Tables.{Tables}
pub use Rattle.rubis_schema.specs.declared.ids.Id.{Id}
pub use Rattle.rubis_schema.specs.declared.limits.TheConstants.{COUNTED_MAX}
pub use Rattle.rubis_schema.specs.declared.listings.Listing.{Listing}
pub use Rattle.rubis_schema.specs.declared.offers.NewItem.{NewItem}
pub use Rattle.rubis_schema.specs.declared.refusals.Refusal.{Refusal}
pub use Rattle.rubis_schema.specs.declared.refusals.Refusal.TheVariants.{BadEvent, BadRecord, BadTarget, Full, LastTurn, NotForMe, NoToken, NotOurs}
pub use Rattle.rubis_schema.specs.declared.row_keys.RowKey.{RowKey}
pub use Rattle.rubis_schema.specs.declared.rows.Best.{Best}
pub use Rattle.rubis_schema.specs.declared.rows.ItemRow.{ItemRow}
pub use Rattle.rubis_schema.specs.declared.rows.Row.{Row}
pub use Rattle.rubis_schema.specs.declared.rows.Sale.TheVariants.{Ended, Open}
pub use Rattle.rubis_schema.specs.declared.rows.UserRow.{UserRow}
pub use Rattle.rubis_shadow.specs.Changes.{better, fits_as, misfits_as, removed}
unfoldable pub use Rattle.rubis_shadow.specs.Changes.{change_row}
pub use Rattle.rubis_shadow.specs.Renames.{NewRename}
pub use Rattle.rubis_shadow.specs.Shadows.{InLimits, is_red, IsAsk, new_item, parts, refers_of, winner_key}
unfoldable pub use Rattle.rubis_shadow.specs.Tables.{opening}
pub use Rattle.rubis_shadow.specs.declared.changes.Change.{Change}
pub use Rattle.rubis_shadow.specs.declared.changes.Change.TheVariants.{BidTaken, Bought, CatEnded, CatListed, End, Insert, ItemListed, NickFreed, Rated}
pub use Rattle.rubis_shadow.specs.declared.changes.Change.TheVariants.{Renamed, Restocked, Sold}
pub use Rattle.rubis_shadow.specs.declared.changes.MisfitKind.TheVariants.{OtherUser, StockShort}
pub use Rattle.rubis_shadow.specs.declared.keyed_change.Effect.{Effect}
pub use Rattle.rubis_shadow.specs.declared.numbered.Misfit.{Misfit}
pub use Rattle.rubis_shadow.specs.declared.shadows.Ask.{Ask}
pub use Rattle.rubis_shadow.specs.declared.shadows.NewRestock.{NewRestock}
pub use Rattle.rubis_shadow.specs.declared.shadows.Shadow.{Shadow}
pub use Rattle.rubis_shadow.specs.declared.shadows.Shadow.TheVariants.{Bid, Buy, Close, Item, Rename, User}
pub use Rattle.rubis_message.proofs.Records.{packet_is, request_is}
pub use Rattle.rubis_message.proofs.Widening.{sites_widened, widened_is}
unfoldable pub use Rattle.rubis_message.specs.Counts.{deps_of}
pub use Rattle.rubis_message.specs.Equal.{Decides-same_message, same_message}
pub use Rattle.rubis_message.specs.Readings.{followed_by, no_more, whole}
unfoldable pub use Rattle.rubis_message.specs.Readings.{take_positive, take_site, kind_of, packet_of, request_of, take_kind, take_message, take_packet}
unfoldable pub use Rattle.rubis_message.specs.Readings.{take_request, take_shadow, take_stamp}
pub use Rattle.rubis_message.specs.Grammar.{HasShadowTexts, IsPacket, IsRequest, packet_record, request_record}
pub use Rattle.rubis_message.specs.Inputs.{input_by, input_of}
pub use Rattle.rubis_message.specs.Message.{dep, IsMessage, Message, sites_of, widened}
pub use Rattle.rubis_message.specs.declared.answers.Arrival.{Arrival}
pub use Rattle.rubis_message.specs.declared.answers.Happened.{Happened}
pub use Rattle.rubis_message.specs.declared.answers.Taken.{Taken}
pub use Rattle.rubis_message.specs.declared.answers.Verdict.{Verdict}
pub use Rattle.rubis_message.specs.declared.answers.Verdict.TheVariants.{Agree, Found}
pub use Rattle.rubis_message.specs.declared.inputs.Input.{Input}
pub use Rattle.rubis_message.specs.declared.inputs.Input.TheVariants.{Asked, Came, Neither}
pub use Rattle.rubis_message.specs.declared.requests.Request.{Request}
pub use Rattle.rubis_message.specs.declared.tokens.Packet.{Packet}
pub use Rattle.rubis_message.specs.declared.tokens.Token.{Token}
pub use Rattle.rubis_generate.proofs.Granted.{granted, not_full, red_allowed}
pub use Rattle.rubis_generate.specs.Decision.{decision, is_due, of_item, order_of, refused_or, shadow_of, as_item_row, is_ended, item_in, row_by_key, Rows}
pub use Rattle.rubis_generate.specs.Decision.{user_in}
pub use Rattle.rubis_generate.specs.declared.standing.Standing.{Standing}
pub use Rattle.rubis_model.proofs.Shares.{same_tables}
pub use Rattle.rubis_model.proofs.Settling.{cores_length, cores_push, contained, contains, has_append, has_back, has_last, has_left, has_reverse, has_right}
pub use Rattle.rubis_model.proofs.Settling.{push_cases, clash, counted_no, dep_within, found, found_red, made_at, red_within, seq_within, counted_reverse}
pub use Rattle.rubis_model.proofs.Settling.{reds_reverse, reverse_push, settle_grows}
pub use Rattle.rubis_model.proofs.OneOutcome.{settle_settles}
pub use Rattle.rubis_model.specs.Site.{arrived_rows, asked_rows, listed_rows, passed_rows, refused_row, send_row, took_rows, after_all, answers_to, input_step}
pub use Rattle.rubis_model.specs.Site.{listing_rows, output_of, told, counted, Has, Ready, reds, settle, Settles, after_came, after_made, arrival_of, arrived}
pub use Rattle.rubis_model.specs.Site.{asked, generating, is_full, is_repeat, issued_after, made, not_ours, opening_at, passed, passing, Place, red_for}
pub use Rattle.rubis_model.specs.Site.{Replica, rows_at, settled, standing_of, token_for, took}
pub use Rattle.rubis_model.specs.Audit.{AllFitting, AllOrdered, AreAmong, AreFaultless, AreSound, IsOrdered, Logged}
pub use Rattle.rubis_model.specs.AuditRecords.{audit_record, IsLine, Line, line_of, line_record, logs_after, verdict_record, with_line}
pub use Rattle.rubis_model.specs.AuditRecords.Line.{Begin, Claim, Next}
pub use Rattle.rubis_model.specs.Meaning.{IsHighestBid, amount_of, as_bid, as_comment, as_item, as_purchase, as_user, at_id, best_bid, best_of, bids_on}
pub use Rattle.rubis_model.specs.Meaning.{bought_by, category_row, choice, choose, close_of, closes, closes_in, count, earlier, higher, int_sum_by}
pub use Rattle.rubis_model.specs.Meaning.{is_same_nick, IsMeaning, item_at, item_row, last_rename, later, lists_in, lists_item_of, named, nick_after, nick_at}
pub use Rattle.rubis_model.specs.Meaning.{rates, rating_for, renames, restocked_of, sale_after, sold_of, supply, total, user_at, user_row, when, winner_of}
pub use Rattle.rubis_model.specs.Checks.{Checked, CheckedFrom, Fits, Follows, has_id, IsLimited, nick_taken, SameSet, StandsIn, stock_short, wrong_category}
pub use Rattle.rubis_model.specs.Checks.{wrong_winner, Holds, Unique}
pub use Rattle.rubis_model.specs.Claims.{KeepInvariants, SerializeOneOrder}
pub use Rattle.rubis_model.specs.Laws.{AreDeliveries, HasAll, HasReleasedAll, message_count, InOrder, InRun, IsLogOf, Sent, tables_at, WasLogOf}
pub use Rattle.rubis_model.specs.Forged.{supplied, supply_at}
pub use Rattle.rubis_model.specs.Lack.{awaited, awaited_red, completed, Completes, is_among, lacked, merged}
pub use Rattle.rubis_model.specs.Listings.{table_rows}
unfoldable pub use Rattle.rubis_model.specs.Listings.{log_from}
pub use Rattle.rubis_model.specs.Log.{core, Core, cores, fold_of, fold_on, Folded, number_parts, parts_of, step}
pub use Rattle.rubis_model.specs.Verdict.{Log, shown_rows, checks, clashes, comes_before, first_fault, first_of, forgets, found_or, is_early, is_known}
pub use Rattle.rubis_model.specs.Verdict.{is_not_next, last_red, makes_row, miscounts, out_of_order, red_gap, same_rows, takes_number, verdict, verdict_from}
pub use Rattle.rubis_model.specs.Verdict.{wrong_reference, wrong_rows}
unfoldable pub use Rattle.rubis_model.specs.Meaning.{meaning_row}
pub use Rattle.rubis_model.specs.System.{Decided, Foundation, Precedes, Released, Serializes, StandsBefore, AllDeliverable, CountedBy, Good, OneToken}
pub use Rattle.rubis_model.specs.System.{red_count, RedsInOrder, Room, Sound, Stands, Travels, turns, answering, AreEvents, at_site, coming, Event, happens}
pub use Rattle.rubis_model.specs.System.{IsEvent, packet_at, place, requested, run, sending, sends, site, start, with_site, World}
pub use Rattle.rubis_model.specs.Processes.{answers_of, AreProcesses, Carried, HasExactlySent, HasReadAll, IsSentMessage, KeepsAll, process, read_by, Reading}
pub use Rattle.rubis_model.specs.Processes.{site_after, state_of, WasSent, AreReplayed, CarriedWithRestarts, has_read, IsLevel, IsShortened, Moment}
pub use Rattle.rubis_model.specs.Processes.{NeverStopped, recorded, Replayed, state_since_start, WasEverSent, without_restarts}
pub use Rattle.rubis_model.specs.Rebuild.{after_inputs, ask_of, Concerns, holding, InPlaceOf, inputs_before, inputs_for, inputs_to_rebuild, is_lacking}
pub use Rattle.rubis_model.specs.Rebuild.{IsRebuilt, lacking, next_token, prepared, rebuilt, seller_in, sends_as, sent_again, sent_by, sent_here, sent_on}
pub use Rattle.rubis_model.specs.Rebuild.{sent_on_inputs, token_as, token_before, with_token, IsWritten}
pub use Rattle.rubis_model.specs.References.{HasBidOnItem, IsMadeBy, Preceded, RefersToPast}
pub use Rattle.rubis_model.specs.Processes.Moment.{Reads, Replays, Restarts}
unfoldable pub use Rattle.rubis_model.specs.Site.{answers}
pub use Rattle.rubis_model.specs.Site.Settles.{Release, Rest}
pub use Rattle.rubis_model.specs.System.Event.{At, Deliver}
pub use Rattle.rubis_model.specs.Widening.{widened_log}
