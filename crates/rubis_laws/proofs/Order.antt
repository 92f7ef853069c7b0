-- What fits where, and the order that all logs keep.
pub mod Decisions
pub mod NotRefused
pub mod FitsByKind
pub mod Deciding
pub mod Winners
pub mod RunsInOrder
