pub mod Folds
pub mod Carrying
pub mod Least
pub mod Decide
