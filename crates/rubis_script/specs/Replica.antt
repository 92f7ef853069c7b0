-- The words of one site, passed on.
pub use Rattle.rubis_replica.specs.Counts.{IsCount}
pub use Rattle.rubis_replica.specs.Follow.{left_of, resting_at}
pub use Rattle.rubis_replica.specs.State.{IsSetup, Setup, setup_place, AnswersAsTheStep, IsReadFault, Lists, ListsTheLog, NeedsNoTables, SiteState, TakesIn}
pub use Rattle.rubis_replica.specs.declared.faults.Fault.{Fault}
pub use Rattle.rubis_replica.specs.declared.faults.Fault.TheVariants as fault_variants
