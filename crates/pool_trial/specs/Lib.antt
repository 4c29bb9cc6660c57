pub mod Lending
pub mod Making
pub mod Recording
pub mod Stock
pub mod Tops
