pub mod Laws
pub mod Laters
pub mod Sames
