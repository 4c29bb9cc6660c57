pub mod Holds
pub mod Judged
pub mod Keys
pub mod Records
pub mod View
