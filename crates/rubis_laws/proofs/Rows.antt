-- What a log's messages do to rows, and what its set alone says.
pub mod Sets
pub mod Cores
pub mod Lengths
pub mod Choices
pub mod Nicks
pub mod CheckedLogs
pub mod RowsOfUser
pub mod RowsOfItem
pub mod OtherRows
pub mod FoldIsMeaning
pub mod EqualSets
pub mod Commuting
pub mod SiteStock
pub mod Forged
