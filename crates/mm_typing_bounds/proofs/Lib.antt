pub mod Expressions
pub mod Statements
pub mod Limits
pub mod Units
