pub mod CanRun
pub mod Cells
pub mod Held
pub mod Layouts
pub mod Lies
pub mod Regions
pub mod Tables
pub mod Views
