-- The names of the crates below that several of these proofs cite, passed on from one place. Declares nothing.
pub use Rattle.std.proofs.Common.{List, [], ap, arith, get_or, inl, inr, length, map, refl, rules, subst, suc, sym, take, true, vec_len, zero, ℕ}
pub use Rattle.std.proofs.Common.{⊎_elim, ◌*◌, ◌++◌, ◌+◌, ◌-◌, ◌<◌, ◌∙◌, ◌∷◌, ◌≡◌, ◌≤◌}
pub use Rattle.std.specs.Prelude.{Err, Ok, Result, Some, slice_get, slice_index, slice_range}
pub use Rattle.std.proofs.lemmas.List.{get_or_default, length-append, length-map}
pub use Rattle.std.proofs.lemmas.List.Elements.{All-cons, All-nil}
pub use Rattle.std.proofs.lemmas.List.Sorted.{All-permutation, IsPermutation-map, IsPermutation-sym, IsPermutation-trans, length_permutation}
pub use Rattle.std.proofs.lemmas.Option.{slice_get_cases, slice_get_within}
pub use Rattle.std.specs.List.{All, AllZip, flat_map}
pub use Rattle.std.specs.List.Sorted.{IsPermutation}
pub use Rattle.std.specs.Vec.{vec_capacity}
pub use Rattle.rubis_shadow.specs.Shadows.{parts}
pub use Rattle.rubis_shadow.specs.declared.shadows.Shadow.{Shadow}
pub use Rattle.rubis_message.specs.Message.{IsMessage, Message}
pub use Rattle.rubis_model.specs.Log.{Core, cores, parts_of}
pub use Rattle.rubis_shard.specs.Holdings.{AreInOrder, HoldsLog, IsSet}
pub use Rattle.rubis_shard.specs.States.{ShardState}
pub use Rattle.rubis_pieces.proofs.Folded.{no_fault_if_moved}
pub use Rattle.rubis_pieces.specs.Batches.{IsCounted, IsFault, IsGathered, IsInOrder, IsPiece, numbers_of, pieces_of}
pub use Rattle.rubis_pieces.specs.Following.{AreFollowed, HoldsTo}
pub use Rattle.rubis_pieces.specs.declared.gathers.FaultKind.{FaultKind}
pub use Rattle.rubis_pieces.specs.declared.pieces.Done.{Done}
pub use Rattle.rubis_pieces.specs.declared.pieces.Piece.{Piece}
pub use Rattle.rubis_board.specs.Rule.{PassState}
