pub mod Marks
pub mod Firsts
pub mod Unique
