pub mod Numbers
pub mod Texts
pub mod Lines
pub mod Stages
pub mod Sheets
pub mod Parsers
pub mod Written
pub mod Errors
