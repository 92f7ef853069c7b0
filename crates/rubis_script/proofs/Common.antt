-- The names of the crates below that several of these proofs cite, passed on from one place. Declares nothing.
pub use Rattle.std.proofs.Common.{All, Bool, Err, List, None, Ok, Option, Result, Some, [], ap, append-nil, append_assoc, arith, decimal, drop, false}
pub use Rattle.std.proofs.Common.{inl, inr, length, length-append, refl, rules, subst, suc, sym, take, true, zero, ℕ, ◌++◌, ◌+◌, ◌-◌, ◌∙◌, ◌∷◌, ◌≡◌}
pub use Rattle.std.proofs.Common.{◌≤◌}
pub use Rattle.std.specs.Prelude.{codes}
pub use Rattle.std.proofs.lemmas.Result.{on_ok_weaker}
pub use Rattle.std.specs.Io.KnownBytes.{Appends}
pub use Rattle.rubis_schema.specs.declared.listings.Listing.{Listing}
pub use Rattle.rubis_schema.specs.declared.refusals.Refusal.{Refusal}
pub use Rattle.rubis_message.specs.Inputs.{FitsIn, input_of}
pub use Rattle.rubis_message.specs.Message.{Message, sites_of}
pub use Rattle.rubis_message.specs.declared.inputs.Input.{Input}
pub use Rattle.rubis_message.specs.declared.inputs.Input.TheVariants.{Asked, Came}
pub use Rattle.rubis_message.specs.declared.tokens.Packet.TheVariants.{Msg}
pub use Rattle.rubis_model.specs.Processes.{site_after}
pub use Rattle.rubis_model.specs.Site.{Place, Replica, arrived, input_step, opening_at, reply, send_row}
unfoldable pub use Rattle.rubis_model.specs.Site.{answers}
pub use Rattle.rubis_replica.specs.State.{SiteState, TakesFirst, after_all}
pub use Rattle.rubis_engine.proofs.RowFacts.{on_ok}
pub use Rattle.rubis_engine.proofs.RunFacts.{breaks-unwritten, ends_memory, ends_on, ends_so, ends_write}
pub use Rattle.rubis_engine.specs.Accounts.{Account, AnswersRecord, Keeps}
pub use Rattle.rubis_engine.specs.Accounts.Ending.{AtEnd, Cut}
pub use Rattle.rubis_engine.specs.Progress.{IsRun, WrotePrefix}
pub use Rattle.rubis_engine.specs.Text.{rows_text}
unfoldable pub use Rattle.rubis_engine.specs.Text.{input_records}
pub use Rattle.rubis_engine.specs.declared.fault.Count.{Count}
pub use Rattle.rubis_engine.specs.declared.fault.RunFault.{RunFault}
pub use Rattle.rubis_engine.specs.declared.service.Course.TheVariants.{GoesOn}
pub use Rattle.rubis_reading.proofs.PieceFacts.{came-length}
pub use Rattle.rubis_reading.specs.Chunked.{held_text}
pub use Rattle.rubis_reading.specs.Readings.{AreOf, FitsWindow, all_came, flat, of_stretch}
unfoldable pub use Rattle.rubis_reading.specs.Readings.{AreInputs}
pub use Rattle.rubis_reading.specs.declared.chunks.Chunks.{Chunks}
pub use Rattle.rubis_serving.specs.Serving.{at}
pub use Rattle.rubis_serving.specs.Writers.{are_outlets}
