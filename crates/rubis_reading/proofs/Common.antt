-- The names of the crates below that several of these proofs cite, passed on from one place. Declares nothing.
pub use Rattle.std.proofs.Common.{Bool, List, None, Option, Some, [], ap, append-nil, append_assoc, arith, drop, false, get_or, get_or-drop}
pub use Rattle.std.proofs.Common.{if◌then◌else◌, inl, inr, length, length-append, length-drop, refl, rules, slice_range, subst, suc, sym, take}
pub use Rattle.std.proofs.Common.{take-append-drop, true, zero, ℕ, ◌&&◌, ◌++◌, ◌+◌, ◌-◌, ◌<◌, ◌==◌, ◌||◌, ◌∙◌, ◌∷◌, ◌≡◌, ◌≤◌}
pub use Rattle.std.specs.Prelude.{IfNone, IfSome, ⊤}
pub use Rattle.csv.specs.Machine.{after_end, field_after, fields_after, in_field, is_end, start_record, step}
pub use Rattle.csv.specs.Reading.{default_config, is_bom}
unfoldable pub use Rattle.csv.specs.Reading.{strip_bom}
pub use Rattle.csv.specs.declared.parser.Action.{Action}
pub use Rattle.csv.specs.declared.parser.State.{State}
pub use Rattle.std.proofs.Math.Seq.{take-append_seam}
pub use Rattle.std.proofs.lemmas.Bool.{cases_Bool, eqb-true}
pub use Rattle.std.proofs.lemmas.Bool.Decides.{nat_tests}
pub use Rattle.std.proofs.lemmas.List.{length-take-le, take-append-le, take_more}
pub use Rattle.std.proofs.lemmas.Result.{on_ok_weaker}
pub use Rattle.std.specs.Bool.{MatchBool}
pub use Rattle.std.specs.Io.KnownBytes.{Consumes, prepend_known}
pub use Rattle.rubis_message.specs.Inputs.{IsInput}
pub use Rattle.rubis_message.specs.declared.inputs.Input.TheVariants.{Came}
pub use Rattle.rubis_message.specs.declared.tokens.Packet.TheVariants.{Msg}
pub use Rattle.rubis_crew.specs.States.{IsBack, LeadState}
pub use Rattle.rubis_engine.specs.Reading.{Advances, Gives}
unfoldable pub use Rattle.rubis_engine.specs.Text.{input_records}
