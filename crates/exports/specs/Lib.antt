pub mod Bound
pub mod Entries
pub mod Limits
pub mod Status
pub mod Windows
