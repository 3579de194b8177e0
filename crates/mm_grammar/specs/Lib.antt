pub mod Grammar
pub mod Ahead
pub mod Small
