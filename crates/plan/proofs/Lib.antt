pub mod Ending
pub mod Placing
pub mod Staging
pub mod Summing
