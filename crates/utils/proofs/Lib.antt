pub mod Members
pub mod Reading
pub mod Room
pub mod Turns
