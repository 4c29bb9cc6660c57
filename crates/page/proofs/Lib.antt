pub mod Parts
pub mod Fields
pub mod Lining
pub mod Reading
pub mod Writing
