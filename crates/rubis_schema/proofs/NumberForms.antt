-- The words of numbers, passed on.
pub use Rattle.rubis_numbers.proofs.NumberLaws.{number_is}
