-- The names of the crates below that several of these proofs cite, passed on from one place. Declares nothing.
pub use Rattle.std.proofs.Common.{List, None, Option, Some, [], ap, arith, length, refl, rules, subst, suc, sym, take, zero, ℕ, ◌++◌, ◌+◌, ◌<◌, ◌∙◌}
pub use Rattle.std.proofs.Common.{◌∷◌, ◌≡◌, ◌≤◌}
pub use Rattle.std.specs.Prelude.{Err, IfSome, IsErr, Ok, Result, map}
pub use Rattle.std.proofs.lemmas.List.{append-nil}
pub use Rattle.std.proofs.lemmas.List.FromFn.{map-range_with_len_more}
pub use Rattle.std.proofs.lemmas.Result.{on_ok_weaker}
pub use Rattle.std.specs.List.{range_with_len}
pub use Rattle.rubis_schema.specs.declared.limits.TheConstants.{RECORDS_MAX}
pub use Rattle.rubis_schema.specs.declared.refusals.Refusal.{Refusal}
pub use Rattle.rubis_message.specs.WorldReadings.{world_input}
pub use Rattle.rubis_message.specs.declared.answers.Happened.{Happened}
pub use Rattle.rubis_message.specs.declared.tokens.Packet.{Packet}
pub use Rattle.rubis_message.specs.declared.world_inputs.WorldInput.TheVariants.{Asked, Delivered}
pub use Rattle.rubis_model.specs.Laws.{InRun}
pub use Rattle.rubis_model.specs.Processes.{world_after}
pub use Rattle.rubis_model.specs.Site.{Place, Replica, opening_at}
pub use Rattle.rubis_model.specs.System.{Event, IsEvent, World, happens, packet_at, site}
pub use Rattle.rubis_model.specs.System.Event.{At, Deliver}
pub use Rattle.rubis_model.specs.WorldRecords.{log_of, logs_of, world_output_of, world_step}
unfoldable pub use Rattle.rubis_model.specs.WorldRecords.{world_answers}
pub use Rattle.rubis_laws.proofs.Runs.Recorded.{answers_are_a_run}
pub use Rattle.rubis_engine.specs.Progress.{IsRun}
pub use Rattle.rubis_engine.specs.Text.{rows_text}
unfoldable pub use Rattle.rubis_engine.specs.Text.{input_records}
pub use Rattle.rubis_engine.specs.declared.fault.Count.{Count}
pub use Rattle.rubis_engine.specs.declared.fault.RunFault.{RunFault}
pub use Rattle.rubis_engine.specs.declared.service.Course.TheVariants.{GoesOn}
pub use Rattle.rubis_script.specs.Replica.{SiteState, resting_at, setup_place}
pub use Rattle.rubis_audit.specs.Walks.{HaveMessagesAmong}
