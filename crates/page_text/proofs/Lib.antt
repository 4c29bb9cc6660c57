pub mod Ending
pub mod Returning
pub mod Ordered
pub mod Spelling
pub mod Padding
pub mod Accepting
pub mod Stopping
