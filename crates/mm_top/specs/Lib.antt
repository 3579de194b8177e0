pub mod Messages
pub mod Comes
pub mod Laws
pub mod Steps
pub mod Runs
pub mod Texts
