pub mod Checks
pub mod Family
pub mod Lawful
pub mod Refusals
