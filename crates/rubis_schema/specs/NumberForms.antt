-- The words of numbers, passed on.
pub use Rattle.rubis_numbers.specs.Numbers.{IsField, number_of, only_if, rating_of, ◌>>=◌}
pub use Rattle.rubis_numbers.specs.declared.numbers.TheConstants.{RATING_MAX}
