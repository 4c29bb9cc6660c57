pub mod Planned
pub mod Staged
