pub mod Tree
pub mod View
pub mod Meaning
pub mod Ready
pub mod Laws
