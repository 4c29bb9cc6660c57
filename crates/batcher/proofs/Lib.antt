pub mod Accepting
pub mod Bounding
pub mod Finding
pub mod Holding
pub mod Keeping
pub mod Pushing
