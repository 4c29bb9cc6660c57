pub mod Counts
pub mod Laid
pub mod Placed
pub mod Supplies
