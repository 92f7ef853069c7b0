-- A lost site is made again from what it sent.
pub mod Rebuilt
pub mod RebuiltSites
pub mod RebuildRecords
pub mod GivenAll
