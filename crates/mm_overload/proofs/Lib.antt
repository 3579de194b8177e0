pub mod Bases
pub mod Orders
pub mod Functions
pub mod Choosing
