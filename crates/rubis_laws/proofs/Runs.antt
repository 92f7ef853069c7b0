-- What holds of every run of several sites.
pub mod SoundSteps
pub mod Written
pub mod Invariants
pub mod EveryRun
pub mod Delivering
pub mod Recorded
pub mod Nicknames
