pub mod Drawing
pub mod Leaving
pub mod Playing
pub mod Runs
