pub mod Follows
pub mod Laws
pub mod Figures
