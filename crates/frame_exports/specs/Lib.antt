pub mod Frames
pub mod Records
pub mod Status
pub mod Subranges
