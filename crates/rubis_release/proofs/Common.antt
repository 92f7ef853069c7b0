-- The names of the crates below that several of these proofs cite, passed on from one place. Declares nothing.
pub use Rattle.std.proofs.Common.{Bool, List, None, Option, Some, [], ap, arith, cond, false, get_or, inl, inr, length, length-append, refl, rules}
pub use Rattle.std.proofs.Common.{subst, subst₂, suc, sym, take, true, zero, ℕ, ⊎_elim, ◌++◌, ◌+◌, ◌-◌, ◌<◌, ◌==◌, ◌||◌, ◌∙◌, ◌∷◌, ◌≡◌, ◌≢◌, ◌≤◌}
pub use Rattle.std.specs.Prelude.{filter, is_some, map, nat_le, nat_lt, slice_get, ◌↔◌, ◌⊎◌}
pub use Rattle.indexmap.specs.IndexMap.{insert_entry, set_value_at}
pub use Rattle.std.proofs.lemmas.Bool.{cases_lt, eq-eqb, le-leb, leb-false, lt-ltb}
pub use Rattle.std.proofs.lemmas.Bool.Decides.{Decides-eqb}
pub use Rattle.std.proofs.lemmas.List.{append-nil, get_or_append_left, get_or_past, length_push, nil_from_length}
pub use Rattle.std.specs.List.{list_any, remove}
pub use Rattle.rubis_schema.specs.KeyLaws.{Decides-same_id}
pub use Rattle.rubis_schema.specs.Keys.{same_id}
pub use Rattle.rubis_schema.specs.declared.ids.Id.{Id}
pub use Rattle.rubis_shadow.specs.Shadows.{InLimits, is_red}
pub use Rattle.rubis_clock.specs.Clocks.{IsReady, MessageCounts}
pub use Rattle.rubis_clock.specs.declared.stamps.Stamp.{Stamp}
pub use Rattle.rubis_message.specs.Message.{IsMessage, Message, dep, sites_of}
pub use Rattle.rubis_model.proofs.OneOutcome.{settles_one}
pub use Rattle.rubis_model.specs.Site.{Has, Place, Ready, Replica, Settles, after_came, after_made, counted, counts, is_current, is_full, is_repeat}
pub use Rattle.rubis_model.specs.Site.{issued_after, made, not_ours, red_for}
