pub mod Callees
pub mod Complete
pub mod Marks
