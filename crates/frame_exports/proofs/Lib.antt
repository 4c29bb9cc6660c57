pub mod Bounding
pub mod Statuses
