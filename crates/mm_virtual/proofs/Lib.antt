pub mod Searching
pub mod Deriving
pub mod Finding
pub mod Rowing
pub mod Halving
