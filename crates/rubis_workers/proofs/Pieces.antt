-- The words of batches and pieces, passed on.
pub use Rattle.rubis_pieces.proofs.Counting.{behind_few, holds_none, holds_whole}
pub use Rattle.rubis_pieces.proofs.Follows.{fewer_behind}
