pub mod Printing
pub mod Sounding
pub mod Telling
pub mod Whole
