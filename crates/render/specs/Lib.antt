pub mod Sizes
pub mod Bound
pub mod Requests
pub mod Limits
pub mod Ready
pub mod Draws
pub mod Carries
pub mod Laws
