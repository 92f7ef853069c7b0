-- The names of the crates below that several of these proofs cite, passed on from one place. Declares nothing.
pub use Rattle.std.proofs.Common.{Bool, List, [], ap, append_assoc, arith, cond, drop, false, inl, inr, length, map, refl, rules, subst, suc, sym}
pub use Rattle.std.proofs.Common.{take, true, vec_len, ℕ, ◌++◌, ◌+◌, ◌-◌, ◌<◌, ◌||◌, ◌∙◌, ◌∷◌, ◌≡◌, ◌≤◌}
pub use Rattle.std.specs.Prelude.{All, Err, None, Ok, OnErr, OnOk, Option, Result, Some, nat_le, reverse, slice_index, slice_range, ◌==◌}
pub use Rattle.std.proofs.lemmas.List.{append-nil}
pub use Rattle.std.proofs.lemmas.List.Elements.{All-nil}
pub use Rattle.std.specs.Arc.{arc_value}
pub use Rattle.std.specs.List.Sorted.{IsPermutation}
pub use Rattle.std.specs.Vec.{vec_capacity}
pub use Rattle.std.specs.declared.alloc.AllocError.{AllocError}
pub use Rattle.rubis_schema.specs.Tables.{Tables}
pub use Rattle.rubis_schema.specs.declared.listings.Listing.{Listing}
pub use Rattle.rubis_schema.specs.declared.refusals.Refusal.{Refusal}
pub use Rattle.rubis_shadow.specs.Shadows.{InLimits}
pub use Rattle.rubis_shadow.specs.Tables.{AllInLimits}
pub use Rattle.rubis_shadow.specs.declared.shadows.Ask.{Ask}
pub use Rattle.rubis_shadow.specs.declared.shadows.Shadow.{Shadow}
pub use Rattle.rubis_message.specs.Message.{IsMessage, Message, sites_of}
pub use Rattle.rubis_message.specs.declared.answers.Arrival.{Arrival}
pub use Rattle.rubis_message.specs.declared.tokens.Token.{Token}
pub use Rattle.rubis_generate.specs.Decision.{decision, row_by_key}
pub use Rattle.rubis_model.specs.Listings.{table_rows}
pub use Rattle.rubis_model.specs.Log.{cores, fold_of}
pub use Rattle.rubis_model.specs.Site.{Place, Replica, arrived, asked, generating, is_full, is_repeat, listed, listing_rows, not_ours, passed}
pub use Rattle.rubis_model.specs.Site.{passing, rows_at, standing_of, took}
pub use Rattle.rubis_board.specs.Rule.{PassState}
pub use Rattle.rubis_workers.specs.Logs.{AppliesTo, AppliesWhole, parts_between}
pub use Rattle.rubis_workers.specs.Pieces.{AreFurther, AreOfTheLog, HoldsTo, StopWithin}
pub use Rattle.rubis_workers.specs.Shard.{union}
pub use Rattle.rubis_workers.specs.Work.{IsRoom, bare, having}
pub use Rattle.rubis_release.specs.Release.{Intake, IsIntake}
