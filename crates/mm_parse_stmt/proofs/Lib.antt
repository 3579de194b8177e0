pub mod Else
pub mod Order
pub mod Exits
