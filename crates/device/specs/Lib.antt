pub mod Calls
pub mod Dispatches
pub mod Laws
pub mod Meaning
pub mod Plays
pub mod Uses
