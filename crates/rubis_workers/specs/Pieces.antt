-- The words of batches and pieces, passed on.
pub use Rattle.rubis_pieces.specs.Following.{AreFurther, HoldsTo, StopWithin, parts_behind}
pub use Rattle.rubis_pieces.specs.Misfits.{AreOfTheLog}
