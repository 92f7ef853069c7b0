-- The names of the crates below that several of these proofs cite, passed on from one place. Declares nothing.
pub use Rattle.std.proofs.Common.{Bool, Err, IfSome, List, None, Ok, Option, Result, Some, [], ap, append_assoc, arith, cond, drop, eqb, false}
pub use Rattle.std.proofs.Common.{get_or, inl, inr, leb, length, length-append, map, min, not, refl, rules, subst, suc, sym, take, take-append-drop}
pub use Rattle.std.proofs.Common.{true, zero, ℕ, ◌&&◌, ◌++◌, ◌+◌, ◌-◌, ◌<◌, ◌==◌, ◌^◌, ◌∙◌, ◌∷◌, ◌≡◌, ◌≤◌, ◌⊎◌}
pub use Rattle.std.specs.Prelude.{IfErr, IsErr, IsTrue, MatchBool, MatchResult, OnErr, OnOk}
pub use Rattle.csv.proofs.WriteFacts.{appends-more, appends-none}
pub use Rattle.csv.specs.Machine.{step}
unfoldable pub use Rattle.csv.specs.Machine.{next_record}
pub use Rattle.csv.specs.Reading.{default_config}
unfoldable pub use Rattle.csv.specs.Reading.{records_from, strip_bom}
pub use Rattle.csv.specs.declared.parser.State.{State}
pub use Rattle.std.proofs.Math.Seq.{take-append-add}
pub use Rattle.std.proofs.lemmas.Bool.{MatchBool-at_false, ne_eqb}
pub use Rattle.std.proofs.lemmas.Bool.Decides.{Decides-eqb}
pub use Rattle.std.proofs.lemmas.List.{append-nil, length-take, length-take-le, take-append-le, take_all, take_more, take_rest}
pub use Rattle.std.proofs.lemmas.Result.{on_ok_weaker}
pub use Rattle.std.specs.Io.KnownBytes.{Appends, Consumes, IsAtEnd, Keeps}
pub use Rattle.std.specs.List.{before_first, range_with_len}
pub use Rattle.rubis_message.specs.Message.{Message}
pub use Rattle.rubis_model.specs.Site.{Place, Replica, counted, counts}
pub use Rattle.rubis_engine.proofs.ReadBack.{no_mark}
pub use Rattle.rubis_engine.proofs.RunFacts.{ends_on, more-bound, takes-at}
pub use Rattle.rubis_engine.specs.Accounts.{Account}
pub use Rattle.rubis_engine.specs.Accounts.Ending.{AtEnd}
pub use Rattle.rubis_engine.specs.Reading.{Advances, Gives, fields_now}
pub use Rattle.rubis_engine.specs.Text.{rows_text}
unfoldable pub use Rattle.rubis_engine.specs.Text.{input_records}
pub use Rattle.rubis_engine.specs.declared.record_list.Records.{Records}
pub use Rattle.rubis_serving.proofs.GoFacts.{goes-tears, tears-as}
pub use Rattle.rubis_serving.specs.Serving.{at}
pub use Rattle.rubis_keys.specs.Keys.{KeyedSite, keyed_input, keyed_step}
pub use Rattle.rubis_keep.specs.Saying.{keyed_account}
