pub mod Bounds
pub mod Telling
pub mod Laws
pub mod Numbers
