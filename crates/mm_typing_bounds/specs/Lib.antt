pub mod Sizes
pub mod Bounded
