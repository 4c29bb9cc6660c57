pub mod Checking
pub mod Lawfuls
