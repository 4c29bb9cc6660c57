pub mod Frames
pub mod Laws
pub mod Printed
pub mod View
