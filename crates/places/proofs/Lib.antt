pub mod Laying
pub mod Spreading
