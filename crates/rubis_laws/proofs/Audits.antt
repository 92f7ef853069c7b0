-- What the checks of an auditor say.
pub mod Tests
pub mod EntryOrder
pub mod AuditReadings
pub mod AuditedOrder
pub mod Verdicts
