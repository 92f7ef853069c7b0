pub mod Keys
pub mod Maps
pub mod Laws
pub mod Desks
pub mod KeyedRuns
