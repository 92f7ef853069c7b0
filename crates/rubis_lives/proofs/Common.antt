-- The names of the crates below that several of these proofs cite, passed on from one place. Declares nothing.
pub use Rattle.std.proofs.Common.{Bool, List, None, Option, Some, [], ap, append-nil, append_assoc, arith, cond, drop, eqb, false, inl, inr, length}
pub use Rattle.std.proofs.Common.{length-append, refl, subst, suc, sym, take, true, zero, ℕ, ⊎_elim, ◌++◌, ◌+◌, ◌<◌, ◌∙◌, ◌∷◌, ◌≡◌, ◌≤◌, ◌⊎◌}
pub use Rattle.std.specs.Prelude.{Err, MatchBool, Ok, Result, codes, map, nat_le, ⊤, ◌==◌, ◌||◌}
unfoldable pub use Rattle.csv.specs.Machine.{next_record}
unfoldable pub use Rattle.csv.specs.Writing.{escaped, fields_text, is_blank}
pub use Rattle.std.proofs.lemmas.List.{append_cancel_left}
pub use Rattle.std.proofs.lemmas.List.Concat.{flat_map-append}
pub use Rattle.std.specs.Io.KnownBytes.{Consumes}
pub use Rattle.rubis_schema.specs.declared.limits.TheConstants.{KEEP_MAX}
pub use Rattle.rubis_schema.specs.declared.refusals.Refusal.{Refusal}
pub use Rattle.rubis_schema.specs.declared.refusals.Refusal.TheVariants.{BadTarget, LastTurn}
pub use Rattle.rubis_shadow.specs.declared.shadows.Shadow.{Shadow}
pub use Rattle.rubis_message.specs.Inputs.{input_of}
pub use Rattle.rubis_message.specs.Message.{Message}
pub use Rattle.rubis_message.specs.declared.inputs.Input.{Input}
pub use Rattle.rubis_message.specs.declared.inputs.Input.TheVariants.{Asked, Came, Neither}
pub use Rattle.rubis_message.specs.declared.tokens.Token.{Token}
pub use Rattle.rubis_generate.specs.Decision.{Rows, decision}
pub use Rattle.rubis_model.specs.Processes.{IsShortened, Moment, has_read, process, read_by, recorded, site_after}
pub use Rattle.rubis_model.specs.Processes.Moment.{Reads, Replays, Restarts}
pub use Rattle.rubis_model.specs.Rebuild.{sent_on, sent_on_inputs}
pub use Rattle.rubis_model.specs.Site.{Place, Replica, generating, input_step, opening_at, passing, rows_at, standing_of}
unfoldable pub use Rattle.rubis_model.specs.Site.{answers}
pub use Rattle.rubis_model.specs.System.{World, run, sending, site, start}
pub use Rattle.rubis_laws.proofs.Processes.AreARun.{processes_run}
pub use Rattle.rubis_laws.proofs.Processes.Restarts.{restarts_change_nothing, short_state}
pub use Rattle.rubis_engine.specs.Accounts.Ending.{AtEnd}
pub use Rattle.rubis_engine.specs.Text.{plain_writer, row_text, rows_text}
unfoldable pub use Rattle.rubis_engine.specs.Text.{input_records}
pub use Rattle.rubis_keep.proofs.HistoryFacts.{safe-first}
pub use Rattle.rubis_keep.proofs.SoundFacts.{sound-front, whole-ends, whole-rest, whole-whole}
pub use Rattle.rubis_keep.specs.History.{AreSafe, FolderEvent, FileState, Files, MayFollow, IsFrontOf, IsSafe, Lived, Says, after_file_event, after_file_events, records_in}
pub use Rattle.rubis_keep.specs.History.FolderEvent.{Began, CutTo, Flushed, Kept, Replied, Settled, Shown, Told}
pub use Rattle.rubis_keep.specs.Lines.{HasSoundLines, begun_after, kept_of_input, whole_lines}
pub use Rattle.rubis_keep.specs.Lives.{IsAtStart}
