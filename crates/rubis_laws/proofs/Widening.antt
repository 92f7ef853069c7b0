-- Records that are rewritten for more sites.
pub mod WidenedLogs
pub mod WidenedRecords
