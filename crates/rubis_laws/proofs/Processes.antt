-- Separate processes, which may be restarted.
pub mod AreARun
pub mod ProcessLaws
pub mod Restarts
pub mod ProcessesConverging
